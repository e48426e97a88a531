-- What it is that texts are sent on a wire of any type, one after another.
use Rattle.std.specs.Prelude.{◌≡◌, ℕ, ◌≤◌, Bool, true, false, if◌then◌else◌, List, [], ◌++◌, take, slice_get, unwrap_or}
use Rattle.std.specs.List.{flat_map}

-- What it is that a wire of some type was sent a text, or, after a failure, a front of it.
abbrev pub Sending : Type 0 → Type 1
Sending W = Bool → List ℕ → W → W → Type 0

-- So many of some texts were sent whole: all of them, where nothing failed. Else those before some text were, or all
-- where a flush failed behind the last.
abbrev pub AreWhole : Bool → ℕ → ℕ → Type 0
AreWhole false whole count = whole ≡ count
AreWhole true whole count = whole ≤ count

abbrev pub joined : List (List ℕ) → List ℕ
joined texts = flat_map (λ text. text) texts

-- the wire was sent the first texts whole, and where something failed a front of the next one, if there is one
pub record WireGrew {W : Type 0} (sends : Sending W) (failed : Bool) (whole : ℕ) (texts : List (List ℕ)) (old new : W)
    : Type 0 where
  pub middle : W
  pub before : sends false (joined (take whole texts)) old middle
  pub behind : sends failed (if failed then unwrap_or (slice_get texts whole) [] else []) middle new

-- A text may be sent in parts, of which only the last may fail; and behind a failure nothing more is sent.
pub record IsSending {W : Type 0} (sends : Sending W) : Type 0 where
  pub nothing : (wire : W) → sends false [] wire wire
  pub joins : (failed : Bool) (text more : List ℕ) (old middle new : W) → sends false text old middle
      → sends failed more middle new → sends failed (text ++ more) old new
  pub longer : (text more : List ℕ) (old new : W) → sends true text old new → sends true (text ++ more) old new
