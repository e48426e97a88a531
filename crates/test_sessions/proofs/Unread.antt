-- Sources that gave nothing yet.
use Rattle.std.proofs.Common.{◌≡◌, List, [], ◌∷◌, ◌++◌, All, sym, subst}
use Rattle.std.proofs.lemmas.List.Elements.{All-nil, All-push}
use Rattle.flake_base.specs.MemorySource.{SourceState}

abbrev pub IsUnread : SourceState → Type 0
IsUnread source = source.given ≡ []

pub two_unread : (none one two : List SourceState) (first second : SourceState) → none ≡ []
    → one ≡ none ++ first ∷ [] → two ≡ one ++ second ∷ [] → IsUnread first × IsUnread second → All IsUnread two
two_unread none one two first second none_is one_is two_is unread =
    subst (All IsUnread) (sym two_is) (All-push IsUnread one second
    (subst (All IsUnread) (sym one_is) (All-push IsUnread none first
    (subst (All IsUnread) (sym none_is) (All-nil IsUnread)) unread.0)) unread.1)
