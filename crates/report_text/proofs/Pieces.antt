-- One piece said behind another.
use Rattle.std.proofs.Common.{◌≡◌, ◌∙◌, refl, sym, ap, ℕ, Bool, true, false, List, [], ◌++◌, append_assoc}
use Rattle.std.proofs.Common.{append-nil}
use Rattle.std.specs.Prelude.{Result, Ok, Err, OnOk, OnErr}
use Rattle.flake_base.specs.Growth.{Grew}
use Rattle.flake_base.specs.Told.{HostTold}
use Rattle.report_text.specs.Pieces.{KeepsFiles, SaidBut}

-- nothing was said yet
pub none_said : (ready said : List ℕ) → SaidBut ready ready said said
none_said ready said = record { front = []; said = sym (append-nil said); whole = refl }

-- more stands ready
pub stands_ready : (ready more now text old new : List ℕ) → now ≡ ready ++ more → SaidBut ready text old new
    → SaidBut now (text ++ more) old new
stands_ready ready more now text old new is was = record {
  front = was.front;
  said = was.said;
  whole = ap (λ t. t ++ more) was.whole ∙ append_assoc was.front ready more ∙ ap (λ r. was.front ++ r) (sym is);
}

-- more was said behind it, or stands ready
pub said_then : (ready next text more old mid new : List ℕ) → SaidBut ready text old mid
    → SaidBut next (ready ++ more) mid new → SaidBut next (text ++ more) old new
said_then ready next text more old mid new one two = record {
  front = one.front ++ two.front;
  said = two.said ∙ ap (λ s. s ++ two.front) one.said ∙ append_assoc old one.front two.front;
  whole = ap (λ t. t ++ more) one.whole ∙ append_assoc one.front ready more
      ∙ ap (λ r. one.front ++ r) two.whole ∙ sym (append_assoc one.front two.front next);
}

-- all of what stands ready was said
pub said_whole : (text old new : List ℕ) → Grew false text old new → SaidBut [] text old new
said_whole text old new grew =
    record { front = text; said = grew.2 ∙ ap (λ b. old ++ b) grew.1; whole = sym (append-nil text) }

-- and that is the whole text; or a front of it where the say failed
pub grew_then : (failed : Bool) (ready text old mid new : List ℕ) → SaidBut ready text old mid
    → Grew failed ready mid new → Grew failed text old new
grew_then false ready text old mid new one grew = (
  one.front ++ grew.0,
  ap (λ b. one.front ++ b) grew.1 ∙ sym one.whole,
  grew.2 ∙ ap (λ s. s ++ grew.0) one.said ∙ append_assoc old one.front grew.0,
)
grew_then true ready text old mid new one grew = (
  one.front ++ grew.0,
  (grew.1.0, one.whole ∙ ap (λ r. one.front ++ r) grew.1.1 ∙ sym (append_assoc one.front grew.0 grew.1.0)),
  grew.2 ∙ ap (λ s. s ++ grew.0) one.said ∙ append_assoc old one.front grew.0,
)

-- a front of a text is one of a longer text too
pub grew_longer : (text more old new : List ℕ) → Grew true text old new → Grew true (text ++ more) old new
grew_longer text more old new grew = (
  grew.0,
  (grew.1.0 ++ more, ap (λ t. t ++ more) grew.1.1 ∙ append_assoc grew.0 grew.1.0 more),
  grew.2,
)

pub keeps_none : (told : HostTold) → KeepsFiles told told
keeps_none told = record { holds = λ name. refl; opens = refl; open_faults = λ name. refl }

pub keeps_then : (old mid new : HostTold) → KeepsFiles old mid → KeepsFiles mid new → KeepsFiles old new
keeps_then old mid new one two = record {
  holds = λ name. two.holds name ∙ one.holds name;
  opens = two.opens ∙ one.opens;
  open_faults = λ name. two.open_faults name ∙ one.open_faults name;
}

pub on_err : {T E P : Type 0} (result : Result T E) → P → OnErr result P
on_err (Ok value) holds = tt
on_err (Err error) holds = holds

pub ok_then : {T E P Q : Type 0} (result : Result T E) → OnOk result P → (P → Q) → OnOk result Q
ok_then (Ok value) holds next = next holds
ok_then (Err error) holds next = tt

pub err_then : {T E P Q : Type 0} (result : Result T E) → OnErr result P → (P → Q) → OnErr result Q
err_then (Ok value) holds next = tt
err_then (Err error) holds next = next holds
