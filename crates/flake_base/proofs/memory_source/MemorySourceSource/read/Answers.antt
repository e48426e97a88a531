use Rattle.std.proofs.Common.{rules, ◌≡◌, ◌++◌, ◌+◌, ◌-◌, List, [], ℕ, Some, length, take, drop, ap, ◌∙◌, sym, refl}
use Rattle.std.proofs.Common.{arith}
use Rattle.std.proofs.lemmas.List.{take_at, take_all, take-append-drop, length-drop}
use lib.Seq.{take-add}
use Rattle.flake_base.specs.MemorySource.{whole_of}
use Rattle.flake_base.proofs.Given.{end_is}
use Rattle.flake_base.proofs.memory_source.MemorySourceSource.read.Goals as goal

-- what was given is the front of what was left
pub returns-clause-given : goal.returns-clause-given
returns-clause-given c =
    let bytes = c.self.inside.bytes.items in
    let at = c.self.inside.at in
    let n = c.min-count.result in
    let all : take (length bytes - at) (drop at bytes) ≡ drop at bytes =
    take_all (length bytes - at) (drop at bytes) (omega (arith, length-drop at bytes)) in
    let copied : c.copy_from_slice.new.self ≡ take n (take (length bytes - at) (drop at bytes)) =
    rw (← c.as_slice.ensures) c.copy_from_slice.ensures.after in
    let count : length c.copy_from_slice.new.self ≡ n = search rules in
    let front : take n (c.copy_from_slice.new.self ++ drop n c.args.room.now) ≡ take n (drop at bytes) =
    take_at _ _ n count ∙ copied ∙ ap (take n) all in
    let given : take at bytes ≡ c.args.self.now.given = ap (λ s. s.given) c.self.view_is in
    let none : n ≡ 0 → length (drop (at + n) bytes) ≡ 0 = search rules in
    record {
      bytes = take-add at n bytes ∙ ap (λ (t : List ℕ). take at bytes ++ t) (sym front)
          ∙ ap (λ (t : List ℕ). t ++ take n (c.copy_from_slice.new.self ++ drop n c.args.room.now)) given;
      end = end_is n (drop (at + n) bytes) none;
    }

-- all that is held stays
pub returns-clause-whole : goal.returns-clause-whole
returns-clause-whole c =
    let bytes = c.self.inside.bytes.items in
    let at = c.self.inside.at in
    let n = c.min-count.result in
    ap Some (take-append-drop (at + n) bytes ∙ sym (take-append-drop at bytes) ∙ ap whole_of c.self.view_is)
