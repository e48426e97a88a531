-- How many buffers of each class values take.
use Rattle.std.specs.Prelude.{◌≡◌, ℕ, ◌+◌, ◌/◌, ◌%◌, ◌<◌, ◌≤◌, List, ◌==◌, if◌then◌else◌, length}
use Rattle.pin_core.specs.Holding.{Holding}
use Rattle.pin_core.specs.declared.sizes.Sizes.{Sizes}
use Rattle.pin_core.specs.declared.class.Class.{Class}
use Rattle.pin_core.specs.declared.class.Class.TheVariants.{Small, Large}
use Rattle.pinned_pool.specs.Classes.{just}
use Rattle.frag_value.specs.Fragments.{frag_limit, frags_limit, class_for, stored_fragments, fragments_in}
use Rattle.flake_base.specs.Limits.{value_limit}
use Rattle.frag_value.specs.Values.{Frags, IsValue, HasValue, size_of}
use Rattle.frag_value.specs.Changes.{anew}

-- n bytes take a large buffer for each full fragment, and for the bytes behind these one of their class
abbrev pub class_buffers_for : Class → ℕ → ℕ
class_buffers_for class n =
    just Large (n / frag_limit) class + (if n % frag_limit == 0 then 0 else just (class_for (n % frag_limit)) 1 class)

-- How many fragments of each class there are.
pub record FragmentsAreCounted : Type 0 where
  pub of_bytes : (class : Class) (bytes : List ℕ)
      → fragments_in class (stored_fragments bytes) ≡ class_buffers_for class (length bytes)
  -- an append cuts the partial fragment anew, with the new bytes behind it
  pub of_append : (z : Sizes) (class : Class) (hs : List Holding) (v : Frags) (bytes : List ℕ)
      → IsValue z v → HasValue hs v
      → fragments_in class (anew hs v bytes) ≡ class_buffers_for class (size_of v % frag_limit + length bytes)
  -- in all there are as many as pieces of 4,096
  pub all : (n : ℕ) → class_buffers_for Small n + class_buffers_for Large n ≡ (n + 4095) / frag_limit
  -- and at most one lies in a small buffer
  pub few_small : (n : ℕ) → class_buffers_for Small n ≤ 1
  pub most : (n : ℕ) → n ≤ value_limit → class_buffers_for Small n + class_buffers_for Large n ≤ frags_limit
  pub most_appended : (k n : ℕ) → k < frag_limit → class_buffers_for Large (k + n) ≤ (n + 8190) / frag_limit
