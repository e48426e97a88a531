-- How each step changes what a seat knows.
--
-- The words of this page:
--   first, without       the first hold that a key means, and the list without it
--   taken_by, left_by    the holds that several keys take out of a list, and the rest
--   won, lost            a seat after a claim that found 0, and after one that found another number
--   pin, put, unpin      a seat after that step
--   split_old, split_new the two seats of a split
--   joined               a seat that took another one in
--   sharing, taking      the owner and the taker of a pin, after the moves of credits around it
--   losing, gaining      the two seats between which holds went
use Rattle.std.specs.Prelude.{ℕ, ◌+◌, ◌-◌, ◌≤◌, List, [], ◌∷◌, ◌++◌, Bool, true, false, not, ◌==◌, if◌then◌else◌, map}
use Rattle.view_sums.specs.Total.{total}
use Rattle.pin_core.specs.Holding.{Holding, Key, fresh, shared, written}
use Rattle.pinned_pool.specs.Views.{view}
use Rattle.pinned_pool.specs.declared.view.View.{View}

-- the hold is of the key's buffer, and pinned or not as the key says
abbrev pub means : Key → Holding → Bool
means k h = if h.buffer == k.buffer then (if k.pinned then h.pinned else not h.pinned) else false

abbrev pub same_key : Key → Key → Bool
same_key k j = if j.buffer == k.buffer then (if k.pinned then j.pinned else not j.pinned) else false

abbrev pub hold_key : Holding → Key
hold_key h = record { buffer = h.buffer; pinned = h.pinned }

-- the first hold that is meant, if there is one
abbrev pub first_hold : Key → List Holding → List Holding
first_hold k [] = []
first_hold k (h ∷ hs) = if means k h then h ∷ [] else first_hold k hs

abbrev pub without : Key → List Holding → List Holding
without k [] = []
without k (h ∷ hs) = if means k h then hs else h ∷ without k hs

-- a hold for each key, each once, and the other holds
abbrev pub holds_for : List Key → List Holding → List Holding
holds_for [] hs = []
holds_for (k ∷ ks) hs = first_hold k hs ++ holds_for ks (without k hs)

abbrev pub without_keys : List Key → List Holding → List Holding
without_keys [] hs = hs
without_keys (k ∷ ks) hs = without_keys ks (without k hs)

-- how many holds are meant
abbrev pub meant_count : Key → List Holding → ℕ
meant_count k hs = total (λ h. if means k h then 1 else 0) hs

-- how often a key is asked for
abbrev pub times_asked : Key → List Key → ℕ
times_asked k ks = total (λ j. if same_key k j then 1 else 0) ks

-- there is a hold for each key, with repeats
abbrev pub HasHolds : List Key → List Holding → Type 0
HasHolds ks hs = (k : Key) → times_asked k ks ≤ meant_count k hs

abbrev pub share : ℕ → Holding → Holding
share b h = if h.buffer == b then shared h else h

abbrev pub write : ℕ → ℕ → ℕ → Holding → Holding
write b i x h = if h.buffer == b then written i x h else h

-- the front of the first hold of the buffer
abbrev pub front_of : ℕ → List Holding → List ℕ
front_of b [] = []
front_of b (h ∷ hs) = if h.buffer == b then h.front else front_of b hs

abbrev pub pinned_hold : ℕ → List ℕ → Holding
pinned_hold b front = record { buffer = b; front = front; exclusive = false; pinned = true }

abbrev pub won : ℕ → View → View
won b v = view (fresh b ∷ v.holds) v.credits (v.claims ++ b ∷ []) v.looks v.returns v.lasts

abbrev pub lost : ℕ → ℕ → View → View
lost b found v = view v.holds v.credits v.claims (v.looks ++ (b, found) ∷ []) v.returns v.lasts

abbrev pub pin : ℕ → View → View
pin b v =
    view (pinned_hold b (front_of b v.holds) ∷ map (share b) v.holds) (v.credits - 1) v.claims v.looks v.returns v.lasts

abbrev pub put : ℕ → ℕ → ℕ → View → View
put b i x v = view (map (write b i x) v.holds) v.credits v.claims v.looks v.returns v.lasts

-- a pinned hold gives a credit back; it may have been the buffer's last hold
abbrev pub unpin : Bool → Key → View → View
unpin last k v =
    view (without k v.holds) (v.credits + (if k.pinned then 1 else 0)) v.claims v.looks
    (v.returns + (if k.pinned then 1 else 0)) (if last then v.lasts ++ k.buffer ∷ [] else v.lasts)

abbrev pub split_old : List Key → ℕ → View → View
split_old ks credits v = view (without_keys ks v.holds) (v.credits - credits) v.claims v.looks v.returns v.lasts

abbrev pub split_new : List Key → ℕ → View → View
split_new ks credits v = view (holds_for ks v.holds) credits [] [] 0 []

abbrev pub joined_views : View → View → View
joined_views v w =
    view (v.holds ++ w.holds) (v.credits + w.credits) (v.claims ++ w.claims) (v.looks ++ w.looks)
    (v.returns + w.returns) (v.lasts ++ w.lasts)

-- its holds of the buffer are shared from now on
abbrev pub sharing : ℕ → View → View
sharing b v = view (map (share b) v.holds) v.credits v.claims v.looks v.returns v.lasts

-- a new hold, paid with a credit
abbrev pub taking : Holding → View → View
taking h v = view (v.holds ++ h ∷ []) (v.credits - 1) v.claims v.looks v.returns v.lasts

-- the holds that these keys mean went to another seat
abbrev pub losing : List Key → View → View
losing ks v = view (without_keys ks v.holds) v.credits v.claims v.looks v.returns v.lasts

-- and these came from another one
abbrev pub gaining : List Holding → View → View
gaining hs v = view (v.holds ++ hs) v.credits v.claims v.looks v.returns v.lasts

-- an owner's key
abbrev pub loose_key : ℕ → Key
loose_key b = record { buffer = b; pinned = false }
