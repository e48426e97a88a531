-- The lines of sessions, one after another.
use Rattle.std.proofs.Common.{◌≡◌, ◌<◌, ◌≤◌, ℕ, ◌+◌, suc, List, [], ◌∷◌, ◌++◌, length, take, get_or, arith, sym, ap}
use Rattle.std.proofs.Common.{◌∙◌, append-nil, append_assoc}
use Rattle.std.proofs.lemmas.List.{length-take-le, take_all, take_more}
use Rattle.flake_base.specs.declared.session.SessionEnd.{SessionEnd}
use Rattle.flake_model.specs.Said.{session_line, summary_from}

pub summary_more : (n : ℕ) (ends : List SessionEnd) (end : SessionEnd) → summary_from n (ends ++ end ∷ [])
    ≡ summary_from n ends ++ session_line (n + length ends) end
summary_more n [] end = let same : n ≡ n + 0 = omega arith in append-nil (session_line n end)
    ∙ ap (λ m. session_line m end) same
summary_more n (first ∷ ends) end =
    let same : n + 1 + length ends ≡ n + suc (length ends) = omega arith in
    ap (λ rest. session_line n first ++ rest)
    (summary_more (n + 1) ends end ∙ ap (λ m. summary_from (n + 1) ends ++ session_line m end) same)
    ∙ sym (append_assoc (session_line n first) (summary_from (n + 1) ends) (session_line (n + suc (length ends)) end))

-- the line of one session more
pub summary_step : (ends : List SessionEnd) (k : ℕ) (d : SessionEnd) (text line new : List ℕ)
    → text ≡ summary_from 0 (take k ends) → line ≡ session_line k (get_or ends k d) → new ≡ text ++ line
    → k < length ends
    → new ≡ summary_from 0 (take (k + 1) ends)
summary_step ends k d text line new before here is within =
    let number : 0 + length (take k ends) ≡ k = let count = length-take-le k ends (omega arith) in
    omega (arith, count) in
    let more : summary_from 0 (take (k + 1) ends) ≡ summary_from 0 (take k ends) ++ session_line k (get_or ends k d) =
    ap (summary_from 0) (take_more ends k d within) ∙ summary_more 0 (take k ends) (get_or ends k d)
    ∙ ap (λ n. summary_from 0 (take k ends) ++ session_line n (get_or ends k d)) number in
    is ∙ ap (λ t. t ++ line) before ∙ ap (λ l. summary_from 0 (take k ends) ++ l) here ∙ sym more

-- the lines of all sessions, and two behind them
pub summary_end : (ends : List SessionEnd) (k : ℕ) (text next new dump held : List ℕ)
    → text ≡ summary_from 0 (take k ends) → next ≡ text ++ dump → new ≡ next ++ held → length ends ≤ k
    → new ≡ summary_from 0 ends ++ dump ++ held
summary_end ends k text next new dump held before here is past =
    is ∙ ap (λ t. t ++ held) here
    ∙ ap (λ t. t ++ dump ++ held) (before ∙ ap (summary_from 0) (take_all k ends past))
