-- Frames that a joiner took, and one more.
use Rattle.std.proofs.Common.{◌≡◌, ◌⊎◌, inl, inr, ℕ, ◌+◌, ◌-◌, List, [], ◌∷◌, ◌++◌, Option, Some, None, IsSome, Ok}
use Rattle.std.proofs.Common.{◌<◌, length, map, take, drop, slice_get, refl, ap, sym, ◌∙◌, subst, arith, append-nil}
use Rattle.std.proofs.Common.{take-append-drop, Err, IfSome, Bool}
use Rattle.std.specs.List.{AllByRecursion}
use Rattle.std.proofs.lemmas.List.{map-append}
use Rattle.mtu_frames.specs.Frames.{MtuFrame}
use Rattle.mtu_frames.specs.Reading.{frame_read, refusal}
use Rattle.mtu_frames.specs.Joining.{Answers, IsLeastMissing, IsWhole, Joining}
use Rattle.mtu_frames.specs.Texts.{TookInTurn}
use Rattle.mtu_frames.specs.declared.error.BadFrame.{BadFrame}
use Rattle.mtu_frames.specs.declared.error.BadFrame.TheVariants as errors
use Rattle.mtu_frames.specs.declared.joiner.Taken.{Taken}
use Rattle.join_files.specs.Joined.{TookAll, IsFirstRefused, IsRefusedAt, IsRefusedBy, IsTakenAs, MissesBy, error_of}
use Rattle.join_files.specs.Joined.{IsJoinedOf, WhyNotJoined}
use Rattle.join_files.specs.declared.error.JoinError.{JoinError}
use Rattle.join_files.specs.declared.error.JoinError.TheVariants as found
use Rattle.join_files.specs.Cutting.{file_frames, next_length}
use Rattle.join_files.specs.Source.{IsUnjoined, IsWithinLimit}
use Rattle.join_files.proofs.Cuts.{GoesOn, goes_on, next_frame}

in_turn : (sent : List MtuFrame) (frame : MtuFrame) (old mid new : List MtuFrame) (taken : Taken)
    → TookInTurn sent old mid → Answers frame (Ok taken) mid new → TookInTurn (sent ++ frame ∷ []) old new
in_turn [] frame old mid new taken took answers =
    (new, taken, subst (λ (o : List MtuFrame). Answers frame (Ok taken) o new) took answers, refl)
in_turn (first ∷ sent) frame old mid new taken took answers =
    (took.0, took.1, took.2, in_turn sent frame took.0 mid new taken took.3 answers)

all_more : {A : Type 0} (P : A → Type 0) (xs : List A) (x : A) → AllByRecursion P xs → P x
    → AllByRecursion P (xs ++ x ∷ [])
all_more P [] x all one = (one, tt)
all_more P (y ∷ ys) x all one = (all.0, all_more P ys x all.1 one)

pub none_taken : (mtu calls : ℕ) (frames : List MtuFrame) → frames ≡ [] → TookAll mtu calls [] frames
none_taken mtu calls frames none = record { fit = tt; took = none }

pub one_taken : (mtu calls : ℕ) (sent : List (List ℕ)) (bytes : List ℕ) (old new : List MtuFrame)
    → TookAll mtu calls sent old → IsTakenAs mtu calls bytes old new → TookAll mtu calls (sent ++ bytes ∷ []) new
one_taken mtu calls sent bytes old new before one = record {
  fit = all_more (λ bytes. refusal mtu calls bytes ≡ None) sent bytes before.fit one.fits;
  took = subst (λ fs. TookInTurn fs [] new) (sym (map-append frame_read sent (bytes ∷ [])))
      (in_turn (map frame_read sent) (frame_read bytes) [] old new one.taken before.took one.answers);
}

module _ (mtu calls : ℕ) (bytes : List ℕ) (old new : List MtuFrame) (X : Type 0) where
  -- a frame that was taken
  pub is_taken : (taken : Taken) → IfSome (refusal mtu calls bytes) (λ e. (Ok taken ≡ Err e) × X)
      → (refusal mtu calls bytes ≡ None → Answers (frame_read bytes) (Ok taken) old new)
      → IsTakenAs mtu calls bytes old new
  is_taken taken refused answer = by (refusal mtu calls bytes) refl refused
    where
      by : (found : Option BadFrame) → refusal mtu calls bytes ≡ found
          → IfSome found (λ e. (Ok taken ≡ Err e) × X)
          → IsTakenAs mtu calls bytes old new
      by None is refused = record { fits = is; taken = taken; answers = answer is }
      by (Some e) is refused = absurd (let same : Ok taken ≡ Err e = refused.0 in cc same)

  -- and one that was refused
  pub is_refused : (error : BadFrame) (number : ℕ)
      → (refusal mtu calls bytes ≡ None → Answers (frame_read bytes) (Err error) old new)
      → IsRefusedAt (error_of error number) number mtu calls old bytes
  is_refused error number answer = by (refusal mtu calls bytes) refl
    where
      some : (e : BadFrame) → refusal mtu calls bytes ≡ Some e → IsSome (refusal mtu calls bytes)
      some e is = subst IsSome (sym is) refl

      first : (error : BadFrame) (e : BadFrame) → refusal mtu calls bytes ≡ Some e
          → IsRefusedAt (error_of error number) number mtu calls old bytes
      first (errors.BadLength len) e is = (refl, inl (some e is))
      first (errors.BadField byte) e is = (refl, inl (some e is))
      first (errors.BadIndex index count) e is = (refl, inl (some e is))
      first (errors.BadSize len) e is = (refl, inl (some e is))
      first (errors.BadCall call) e is = (refl, inl (some e is))
      first (errors.Conflict call index) e is = (refl, inl (some e is))
      first errors.Memory e is = tt

      later : (error : BadFrame) → Answers (frame_read bytes) (Err error) old new
          → IsRefusedAt (error_of error number) number mtu calls old bytes
      later (errors.BadLength len) answer = absurd answer
      later (errors.BadField byte) answer = absurd answer
      later (errors.BadIndex index count) answer = absurd answer
      later (errors.BadSize len) answer = absurd answer
      later (errors.BadCall call) answer = absurd answer
      later (errors.Conflict call index) answer = (refl, inr answer.2)
      later errors.Memory answer = tt

      by : (found : Option BadFrame) → refusal mtu calls bytes ≡ found
          → IsRefusedAt (error_of error number) number mtu calls old bytes
      by None is = later error (answer is)
      by (Some e) is = first error e is

-- the frames in front of a place were taken, and the one at it is refused
pub first_refused : (mtu calls : ℕ) (sent : List (List ℕ)) (at number : ℕ) (bytes : List ℕ) (frames : List MtuFrame)
    → number ≡ at + 1 → slice_get sent at ≡ Some bytes → TookAll mtu calls (take at sent) frames
    → IsRefusedBy mtu calls frames bytes → IsFirstRefused mtu calls sent number
first_refused mtu calls sent at number bytes frames is here taken refused =
    let same : at ≡ number - 1 = omega (arith, is) in
    record {
      counted = omega (arith, is);
      bytes = bytes;
      bytes_are = subst (λ n. slice_get sent n ≡ Some bytes) same here;
      frames = frames;
      taken = subst (λ n. TookAll mtu calls (take n sent) frames) same taken;
      refused = refused;
    }

-- one frame more of a file was taken
pub record OneMore (mtu calls : ℕ) (bytes behind : List ℕ) (number : ℕ) (frames : List MtuFrame) : Type 0 where
  pub taken : TookAll mtu calls (take (number + 1) (file_frames bytes)) frames
  pub behind_is : drop (number + 1) (file_frames bytes) ≡ file_frames behind

module _ (mtu calls : ℕ) (bytes rest : List ℕ) (number : ℕ) (frames : List MtuFrame) (frame behind : List ℕ)
    (some : 0 < length rest)
    (front : TookAll mtu calls (take number (file_frames bytes)) frames)
    (back : drop number (file_frames bytes) ≡ file_frames rest)
    (frame_is : frame ≡ take (next_length rest) rest) (behind_is : behind ≡ drop (next_length rest) rest) where
  next : GoesOn (file_frames bytes) number (take (next_length rest) rest) (file_frames (drop (next_length rest) rest))
  next = goes_on (file_frames bytes) number (take (next_length rest) rest)
      (file_frames (drop (next_length rest) rest)) (back ∙ next_frame rest some)

  pub one_more : (new : List MtuFrame) → IsTakenAs mtu calls frame frames new
      → OneMore mtu calls bytes behind number new
  one_more new one = record {
    taken = subst (λ sent. TookAll mtu calls sent new) (sym next.front)
        (one_taken mtu calls (take number (file_frames bytes)) (take (next_length rest) rest) frames new front
        (subst (λ b. IsTakenAs mtu calls b frames new) frame_is one));
    behind_is = next.behind ∙ ap file_frames (sym behind_is);
  }

  pub one_refused : (at : ℕ) → at ≡ number + 1 → IsRefusedBy mtu calls frames frame
      → IsFirstRefused mtu calls (file_frames bytes) at
  one_refused at is refused =
      first_refused mtu calls (file_frames bytes) number at (take (next_length rest) rest) frames is next.here front
      (subst (IsRefusedBy mtu calls frames) frame_is refused)

-- where nothing is left all were taken
pub all_taken : (mtu calls : ℕ) (bytes rest : List ℕ) (number : ℕ) (frames : List MtuFrame) → length rest ≡ 0
    → TookAll mtu calls (take number (file_frames bytes)) frames
    → drop number (file_frames bytes) ≡ file_frames rest
    → TookAll mtu calls (file_frames bytes) frames
all_taken mtu calls bytes [] number frames none taken back =
    let whole : take number (file_frames bytes) ≡ file_frames bytes =
    sym (append-nil (take number (file_frames bytes)))
    ∙ ap (λ more. take number (file_frames bytes) ++ more) (sym back)
    ∙ take-append-drop number (file_frames bytes) in
    subst (λ sent. TookAll mtu calls sent frames) whole taken
all_taken mtu calls bytes (byte ∷ rest) number frames none taken back = absurd (omega (arith, none))

-- where a frame is missing, it is known which
pub why_missing : (error : JoinError) (mtu calls : ℕ) (sent : List (List ℕ)) (frames : List MtuFrame)
    → TookAll mtu calls sent frames → MissesBy error frames calls → WhyNotJoined error mtu calls sent
why_missing found.ReadFault mtu calls sent frames taken misses = absurd misses
why_missing found.TooLarge mtu calls sent frames taken misses = absurd misses
why_missing (found.BadFrame number) mtu calls sent frames taken misses = absurd misses
why_missing (found.Missing call frame) mtu calls sent frames taken misses =
    record { frames = frames; taken = taken; least = misses }
why_missing found.Memory mtu calls sent frames taken misses = absurd misses

-- where one is refused, it is the first
pub why_refused : (error : JoinError) (mtu calls at : ℕ) (sent : List (List ℕ)) (frames : List MtuFrame)
    (bytes : List ℕ)
    → (IsRefusedBy mtu calls frames bytes → IsFirstRefused mtu calls sent at)
    → IsRefusedAt error at mtu calls frames bytes → WhyNotJoined error mtu calls sent
why_refused found.ReadFault mtu calls at sent frames bytes first refused = absurd refused
why_refused found.TooLarge mtu calls at sent frames bytes first refused = absurd refused
why_refused (found.BadFrame number) mtu calls at sent frames bytes first refused =
    subst (IsFirstRefused mtu calls sent) (sym refused.0) (first refused.1)
why_refused (found.Missing call frame) mtu calls at sent frames bytes first refused = absurd refused
why_refused found.Memory mtu calls at sent frames bytes first refused = tt

-- the joiner that is answered took all frames and misses none
pub joined_of : (mtu calls : ℕ) (sent : List (List ℕ)) (first joiner answer : Joining)
    → first ≡ record { mtu = mtu; calls = calls; frames = [] } → joiner.calls ≡ first.calls
    → TookAll first.mtu first.calls sent joiner.frames → answer ≡ joiner → IsWhole joiner.frames joiner.calls
    → IsJoinedOf mtu calls sent answer
joined_of mtu calls sent first joiner answer is same taken answer_is whole =
    subst (IsJoinedOf mtu calls sent) (sym answer_is)
    (record {
      calls_are = same ∙ ap (λ (j : Joining). j.calls) is;
      taken = subst (λ (j : Joining). TookAll j.mtu j.calls sent joiner.frames) is taken;
      whole = subst (IsWhole joiner.frames) (same ∙ ap (λ (j : Joining). j.calls) is) whole;
    })

-- why the frames of a source are not put together that was read whole
pub why_unjoined : (error : JoinError) (mtu calls : ℕ) (given : List ℕ) (ended : Bool) (old new : ℕ)
    → IsWithinLimit given ended → new ≡ old → WhyNotJoined error mtu calls (file_frames given)
    → IsUnjoined error mtu calls given ended old new
why_unjoined found.ReadFault mtu calls given ended old new within same why = absurd why
why_unjoined found.TooLarge mtu calls given ended old new within same why = absurd why
why_unjoined (found.BadFrame number) mtu calls given ended old new within same why = (within, why, same)
why_unjoined (found.Missing call frame) mtu calls given ended old new within same why = (within, why, same)
why_unjoined found.Memory mtu calls given ended old new within same why = same
