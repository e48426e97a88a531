-- What is said of reaps and of stored fragments, where there are any.
use Rattle.std.proofs.Common.{◌≡◌, ℕ, zero, suc, ◌<◌, List, [], ◌∷◌, ◌++◌, length, arith, refl}
use Rattle.std.specs.Prelude.{codes}
use Rattle.std.specs.Fmt.{decimal}
use Rattle.std.specs.List.{flat_map}
use Rattle.flake_base.specs.declared.segment.Seg.{Seg}
use Rattle.transcript_model.specs.Lines.{segment_text, reaped_text, stored_text}

pub some_reaped : (n : ℕ) → 0 < n → reaped_text n ≡ codes " reaped" ++ 32 ∷ decimal n
some_reaped zero some = absurd (omega arith)
some_reaped (suc n) some = refl

pub some_stored : (stored : List Seg) → 0 < length stored → stored_text stored ≡ codes " store"
    ++ flat_map segment_text stored
some_stored [] some = absurd (omega arith)
some_stored (seg ∷ stored) some = refl

pub none_stored : (stored : List Seg) → length stored ≡ 0 → stored_text stored ≡ []
none_stored [] none = refl
none_stored (seg ∷ stored) none = absurd (omega arith)
