-- One text said behind another.
use Rattle.std.proofs.Common.{◌≡◌, ℕ, ◌+◌, Bool, true, false, List, [], ◌∷◌, ◌++◌, length, take, get_or, ◌<◌}
use Rattle.std.proofs.Common.{refl, ap, sym, ◌∙◌, subst, append_assoc, append-nil, arith}
use Rattle.std.specs.List.{flat_map}
use Rattle.std.proofs.lemmas.List.{take_more}
use Rattle.std.proofs.lemmas.Grind.{flat_map-append}
use Rattle.flake_base.specs.Causes.{Rose}
use Rattle.flake_base.specs.Growth.{Grew}
use Rattle.flake_base.specs.Told.{HostTold}
use Rattle.flake_base.specs.declared.segment.Seg.{Seg}
use Rattle.flake_model.specs.Wire.{FaultIs}
use Rattle.transcript_model.specs.Lines.{segment_text, stored_text, transcript_line}
use Rattle.transcript_model.specs.Told.{said, front_text}
use Rattle.drive_script.specs.declared.happened.Happened.{Happened}
use Rattle.drive_script.specs.declared.happened.Happened.TheVariants.{Posted, RingFull, StageFull, AtEnd, Sent, Dropped}
use Rattle.drive_script.specs.declared.happened.Happened.TheVariants.{NothingPosted, Reaped, NothingReaped}
use Rattle.drive_script.specs.Happened.{line_event}
use Rattle.drive_script.specs.Says.{SameFiles, PrintsText}

-- a whole text and a piece behind it
grew_more : (failed : Bool) (text piece old mid new : List ℕ) → Grew false text old mid → Grew failed piece mid new
    → Grew failed (text ++ piece) old new
grew_more false text piece old mid new first next =
    let at : Grew false piece (old ++ first.0) new = subst (λ was. Grew false piece was new) first.2 next in
    (first.0 ++ at.0, (λ i. first.1 i ++ at.1 i), at.2 ∙ append_assoc old first.0 at.0)
grew_more true text piece old mid new first next =
    let at : Grew true piece (old ++ first.0) new = subst (λ was. Grew true piece was new) first.2 next in (
      first.0 ++ at.0,
      (at.1.0, (λ i. sym first.1 i ++ at.1.1 i) ∙ sym (append_assoc first.0 at.0 at.1.0)),
      at.2 ∙ append_assoc old first.0 at.0,
    )

-- after a failure a front of the longer text too
grew_no_more : (text piece old new : List ℕ) → Grew true text old new → Grew true (text ++ piece) old new
grew_no_more text piece old new grew =
    (grew.0, (grew.1.0 ++ piece, ap (λ front. front ++ piece) grew.1.1 ∙ append_assoc grew.0 grew.1.0 piece), grew.2)

grew_nothing : (old : List ℕ) → Grew false [] old old
grew_nothing old = ([], refl, sym (append-nil old))

same_files : {a b c : HostTold} → SameFiles a b → SameFiles b c → SameFiles a c
same_files first next = record {
  holds = λ name. next.holds name ∙ first.holds name;
  opens = next.opens ∙ first.opens;
  open_faults = λ name. next.open_faults name ∙ first.open_faults name;
}

never : {A : Type 0} → true ≡ false → A
never is = absurd (cc)

-- nothing was said
pub says_nothing : (failed : Bool) (told : HostTold) → PrintsText failed failed [] told told
says_nothing true told = record {
  silent = λ is. (refl, refl, refl);
  said = λ is. never is;
  files = record { holds = λ name. refl; opens = refl; open_faults = λ name. refl };
}
says_nothing false told = record {
  silent = λ is. never (sym is);
  said = λ is. (grew_nothing told.said, refl);
  files = record { holds = λ name. refl; opens = refl; open_faults = λ name. refl };
}

pub says_then : (was between now : Bool) (text more : List ℕ) (old mid new : HostTold)
    → PrintsText was between text old mid → PrintsText between now more mid new
    → PrintsText was now (text ++ more) old new
says_then true between now text more old mid new first next =
    let one = first.silent refl in
    let two = next.silent one.0 in
    record {
      silent = λ is. (two.0, two.1 ∙ one.1, two.2 ∙ one.2);
      said = λ is. never is;
      files = same_files first.files next.files;
    }
says_then false true now text more old mid new first next =
    let one = first.said refl in
    let two = next.silent refl in
    record {
      silent = λ is. never (sym is);
      said = λ is. subst (λ (b : Bool). Grew b (text ++ more) old.said new.said
          × FaultIs b old.say_faults new.say_faults) (sym two.0) (
            subst (λ (s : List ℕ). Grew true (text ++ more) old.said s) (sym two.1)
                (grew_no_more text more old.said mid.said one.0),
            subst (Rose old.say_faults) (sym two.2) one.1,
          );
      files = same_files first.files next.files;
    }
says_then false false now text more old mid new first next =
    let one = first.said refl in
    let two = next.said refl in
    record {
      silent = λ is. never (sym is);
      said = λ is. (
        grew_more now text more old.said mid.said new.said one.0 two.0,
        subst
            (λ n. FaultIs now n new.say_faults) one.1 two.1,
      );
      files = same_files first.files next.files;
    }

-- one segment more
pub says_segment : (was between now : Bool) (segments : List Seg) (index : ℕ) (d : Seg) (text : List ℕ)
    (old mid new : HostTold) → index < length segments → text ≡ segment_text (get_or segments index d)
    → PrintsText was between (flat_map segment_text (take index segments)) old mid → PrintsText between now text mid new
    → PrintsText was now (flat_map segment_text (take (index + 1) segments)) old new
says_segment was between now segments index d text old mid new within text_is first next =
    let last : Seg = get_or segments index d in
    let all : flat_map segment_text (take index segments) ++ text ≡ flat_map segment_text (take (index + 1) segments) =
    ap (λ t. flat_map segment_text (take index segments) ++ t) (text_is ∙ sym (append-nil (segment_text last)))
    ∙ sym (flat_map-append segment_text (take index segments) (last ∷ []))
    ∙ ap (flat_map segment_text) (sym (take_more segments index d within)) in
    subst (λ t. PrintsText was now t old new) all
    (says_then was between now (flat_map segment_text (take index segments)) text old mid new first next)

-- a posted call's line, piece by piece
pub line_in_pieces : (session call freed : ℕ) (segments fragments : List Seg) → front_text session call freed
    ++ (flat_map segment_text segments ++ stored_text fragments ++ 10 ∷ [])
    ≡ transcript_line (said session (line_event (Posted call freed) segments fragments))
line_in_pieces session call freed segments fragments = grind (arith, append_assoc)

-- what isn't a post has no lists
pub no_lists : (happened : Happened) (segments fragments : List Seg)
    → ((call freed : ℕ) → happened ≡ Posted call freed → ⊥) → line_event happened [] []
    ≡ line_event happened segments fragments
no_lists (Posted call freed) segments fragments other = absurd (other call freed refl)
no_lists (RingFull need room) segments fragments other = refl
no_lists (StageFull need free) segments fragments other = refl
no_lists AtEnd segments fragments other = refl
no_lists (Sent call bytes) segments fragments other = refl
no_lists (Dropped call bytes) segments fragments other = refl
no_lists NothingPosted segments fragments other = refl
no_lists (Reaped call recycled) segments fragments other = refl
no_lists NothingReaped segments fragments other = refl
