-- Replies as a wire is sent them: their texts, or the frames of their texts.
use Rattle.std.specs.Prelude.{◌≡◌, ℕ, ◌+◌, List, [], ◌∷◌, Option, None, Some, map}
use Rattle.std.specs.List.{slice_get}
use Rattle.mtu_frames.specs.Frames.{framed}
use Rattle.reply_planner.specs.Parcels.{Sent, texts_in}

-- the texts of calls from a number on, each as its frames of at most so many bytes
abbrev pub framed_from : ℕ → ℕ → List (List ℕ) → List (List ℕ)
framed_from mtu call [] = []
framed_from mtu call (text ∷ texts) = framed text call mtu ∷ framed_from mtu (call + 1) texts

-- the texts of a session's replies, each as it is sent
abbrev pub all_as_sent : Option ℕ → List (List ℕ) → List (List ℕ)
all_as_sent None texts = texts
all_as_sent (Some mtu) texts = framed_from mtu 0 texts

-- each of some replies as it is sent
abbrev pub each_as_sent : Option ℕ → List Sent → List (List ℕ)
each_as_sent None replies = texts_in replies
each_as_sent (Some mtu) replies = map (λ (reply : Sent). framed reply.text reply.call mtu) replies

-- each reply has its place as its number
abbrev pub AreNumberedByPlace : List Sent → Type 0
AreNumberedByPlace replies = (i : ℕ) (reply : Sent) → slice_get replies i ≡ Some reply → reply.call ≡ i
