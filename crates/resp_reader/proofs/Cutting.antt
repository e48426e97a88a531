-- It doesn't matter how an input was cut.
use Rattle.std.proofs.Common.{◌≡◌, inl, inr, ℕ, List, ◌++◌, Option, Some, None, length, refl, ap, sym, ◌∙◌}
use Rattle.std.specs.Prelude.{MatchOption}
use Rattle.flake_base.specs.declared.session.End.{End}
use Rattle.flake_base.specs.declared.session.End.TheVariants as ends
use Rattle.flake_model.specs.Resp.{Words, stream, requests_of, judged_bytes, Parses}
use Rattle.flake_model.proofs.OneParse.{cut_short_first, same_elements, one_parse}
use Rattle.resp_reader.specs.declared.error.ReadError.{ReadError}
use Rattle.resp_reader.specs.declared.error.ReadError.TheVariants.{BadCount, ExpectedBulk, BadLength, Inline, TooLong}
use Rattle.resp_reader.specs.declared.error.ReadError.TheVariants.{Memory}
use Rattle.resp_reader.specs.Reader.{Progress, error_end, IsErrorTaken, error_at, IsReadTo, ReadsRequests}
use Rattle.resp_reader.proofs.Fed.{read_ends}

-- two readings of the same bytes, each up to what isn't whole
same_reading : (bytes : List ℕ) (some others : List Words) (place at : ℕ) (front other : List ℕ)
    → IsReadTo bytes some place front → IsReadTo bytes others at other
    → (some ≡ others) × (front ≡ other) × (place ≡ at)
same_reading bytes some others place at front other a b =
    let same = same_elements a.elements b.elements front other a.allowed b.allowed (cut_short_first front a.cut_short)
    (cut_short_first other b.cut_short) (sym a.bytes_are ∙ b.bytes_are) in (
      a.requests_are ∙ ap requests_of same.0 ∙ sym b.requests_are,
      same.1,
      a.place_is
          ∙ ap (λ elements. length (stream elements)) same.0 ∙ sym b.place_is,
    )

no_error_is : (error : ReadError) → IsErrorTaken error → (error_end error ≡ ends.Clean → ⊥)
    × ((place : ℕ) → error_end error ≡ ends.Truncated place → ⊥)
no_error_is (BadCount place) taken = ((λ e. absurd cc), (λ at e. absurd cc))
no_error_is (ExpectedBulk place) taken = ((λ e. absurd cc), (λ at e. absurd cc))
no_error_is (BadLength place) taken = ((λ e. absurd cc), (λ at e. absurd cc))
no_error_is (Inline place) taken = ((λ e. absurd cc), (λ at e. absurd cc))
no_error_is (TooLong count) taken = ((λ e. absurd cc), (λ at e. absurd cc))
no_error_is Memory taken = absurd taken

-- bytes that are read on have no error
open_or_closed : (bytes : List ℕ) (some others : List Words) (place : ℕ) (front : List ℕ) (error : ReadError)
    → IsReadTo bytes some place front → IsErrorTaken error → Parses bytes others (error_end error) → ⊥
open_or_closed bytes some others place front error read taken parsed =
    elim (read_ends bytes some place front read) [
      | inl whole ↦ (no_error_is error taken).0
          (sym (one_parse bytes some others ends.Clean (error_end error) (read.judged, whole.1) parsed).1)
      | inr cut ↦ (no_error_is error taken).1 place
          (sym (one_parse bytes some others (ends.Truncated place) (error_end error) (read.judged, cut.1) parsed).1)
    ]

-- the error that an end is
error_of : End → ReadError
error_of ends.Clean = Memory
error_of (ends.Protocol kind place) = error_at kind place
error_of (ends.Truncated place) = Memory
error_of ends.TooLong = TooLong judged_bytes
error_of ends.ReadFault = Memory
error_of ends.Memory = Memory
error_of ends.Left = Memory

error_of-end_of : (error : ReadError) → IsErrorTaken error → error_of (error_end error) ≡ error
unfolding error_of
error_of-end_of (BadCount place) taken = refl
error_of-end_of (ExpectedBulk place) taken = refl
error_of-end_of (BadLength place) taken = refl
error_of-end_of (Inline place) taken = refl
error_of-end_of (TooLong count) taken = ap TooLong (sym taken)
error_of-end_of Memory taken = absurd taken

-- what is known of a reader, by what closed it
abbrev Known : List ℕ → List Words → Progress → Option ReadError → Type 0
Known bytes requests reader closed = MatchOption closed (IsReadTo bytes requests reader.place reader.front)
    (λ error. IsErrorTaken error × Parses bytes requests (error_end error))

by_closed : (bytes : List ℕ) (some others : List Words) (a b : Progress) (here there : Option ReadError)
    → Known bytes some a here → Known bytes others b there
    → (some ≡ others) × (here ≡ there) × (here ≡ None → (a.front ≡ b.front) × (a.place ≡ b.place))
by_closed bytes some others a b None None read other =
    let same = same_reading bytes some others a.place b.place a.front b.front read other in
    (same.0, refl, λ e. (same.1, same.2))
by_closed bytes some others a b None (Some error) read other =
    absurd (open_or_closed bytes some others a.place a.front error read other.0 other.1)
by_closed bytes some others a b (Some error) None read other =
    absurd (open_or_closed bytes others some b.place b.front error other read.0 read.1)
by_closed bytes some others a b (Some error) (Some second) read other =
    let same = one_parse bytes some others (error_end error) (error_end second) read.1 other.1 in
    let errors : error ≡ second = sym (error_of-end_of error read.0) ∙ ap error_of same.1
    ∙ error_of-end_of second other.0 in
    (same.0, ap (λ e. Some e) errors, λ e. absurd cc)

pub any_cutting : (bytes : List ℕ) (given others : List Words) (a b : Progress) → ReadsRequests bytes given a
    → ReadsRequests bytes others b
    → (given ++ a.requests ≡ others ++ b.requests) × (a.closed ≡ b.closed)
    × (a.closed ≡ None → (a.front ≡ b.front) × (a.place ≡ b.place))
any_cutting bytes given others a b read other = by_closed bytes (given ++ a.requests) (others ++ b.requests) a b
    a.closed b.closed read other
