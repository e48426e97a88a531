-- A reply's pieces are its text, and so are the bytes at the segments of its layout.
use Rattle.std.proofs.Common.{◌≡◌, ℕ, zero, suc, ◌+◌, ◌-◌, ◌/◌, ◌%◌, ◌<◌, ◌≤◌, min, Bool, true, false, List, [], ◌∷◌}
use Rattle.std.proofs.Common.{◌++◌, length, take, drop, Option, None, Some, arith, refl, ap, sym, ◌∙◌, append_assoc}
use Rattle.std.proofs.Common.{append-nil, length-append, length-drop}
use Rattle.std.specs.Prelude.{nat_le, if◌then◌else◌, slice_index}
use Rattle.std.specs.Fmt.{decimal}
use Rattle.std.specs.List.{AllByRecursion, flat_map}
use Rattle.std.proofs.lemmas.Grind.{flat_map-append}
use Rattle.std.proofs.lemmas.List.{take-append-drop, take_at, drop_at, drop-drop}
use Rattle.std.proofs.Math.Seq.{take-add}
use Rattle.flake_base.specs.declared.segment.Seg.{Seg}
use Rattle.flake_model.specs.Resp.{crlf, array_head}
use Rattle.flake_model.specs.Command.{Command}
use Rattle.flake_model.specs.Reply.{Reply, ok, pong, error, int, bulk, null, array, reply_text, item_text}
use Rattle.flake_model.specs.Deed.{Deed}
use Rattle.flake_model.specs.Fragments.{fragment_limit}
use Rattle.reply_layout.specs.Pieces.{Piece, plain, stored, piece_bytes, pieces_over, value_pieces, bulk_pieces}
use Rattle.reply_layout.specs.Pieces.{first_deed, item_pieces, reply_pieces, reply_from, pieces_of}
use Rattle.reply_layout.specs.Layout.{segment, Placing, copied, pinned, placings_of, runs, staging_limit, cut}
use Rattle.reply_layout.specs.Layout.{segments_from, layout_of}
use Rattle.reply_layout.specs.Gathered.{Reading, read_all, copied_text, text_of_pieces, IsStaged, IsThere}

over_text : (addresses : List ℕ) (offset : ℕ) (bytes : List ℕ) → text_of_pieces (pieces_over addresses offset bytes)
    ≡ bytes
over_text [] offset bytes = append-nil bytes
over_text (address ∷ addresses) offset [] = refl
over_text (address ∷ addresses) offset (byte ∷ bytes) =
    ap (λ rest. take (fragment_limit - offset) (byte ∷ bytes) ++ rest)
    (over_text addresses 0 (drop (fragment_limit - offset) (byte ∷ bytes)))
    ∙ take-append-drop (fragment_limit - offset) (byte ∷ bytes)

value_text : (deed : Option Deed) (bytes : List ℕ) → text_of_pieces (value_pieces deed bytes) ≡ bytes
value_text None bytes = append-nil bytes
value_text (Some deed) bytes = over_text (drop (deed.first / fragment_limit) deed.found) (deed.first % fragment_limit)
    bytes

bulk_text : (deed : Option Deed) (bytes : List ℕ) → text_of_pieces (bulk_pieces deed bytes) ≡ reply_text (bulk bytes)
bulk_text deed bytes =
    let behind : text_of_pieces (value_pieces deed bytes ++ plain crlf ∷ []) ≡ bytes ++ crlf =
    flat_map-append piece_bytes (value_pieces deed bytes) (plain crlf ∷ [])
    ∙ ap (λ front. front ++ crlf) (value_text deed bytes) in
    ap (λ rest. (36 ∷ decimal (length bytes) ++ crlf) ++ rest) behind
    ∙ sym (append_assoc (36 ∷ decimal (length bytes) ++ crlf) bytes crlf)

items_text : (items : List (Option (List ℕ))) (deeds : List (Option Deed)) → text_of_pieces (item_pieces items deeds)
    ≡ flat_map item_text items
items_text [] deeds = refl
items_text (None ∷ items) deeds = ap (λ rest. item_text None ++ rest) (items_text items (drop 1 deeds))
items_text (Some bytes ∷ items) deeds =
    flat_map-append piece_bytes (bulk_pieces (first_deed deeds) bytes) (item_pieces items (drop 1 deeds))
    ∙ (λ i. bulk_text (first_deed deeds) bytes i ++ items_text items (drop 1 deeds) i)

reply_pieces_text : (reply : Reply) (deeds : List (Option Deed)) → text_of_pieces (reply_pieces reply deeds)
    ≡ reply_text reply
reply_pieces_text ok deeds = append-nil (reply_text ok)
reply_pieces_text pong deeds = append-nil (reply_text pong)
reply_pieces_text (error kind) deeds = append-nil (reply_text (error kind))
reply_pieces_text (int n) deeds = append-nil (reply_text (int n))
reply_pieces_text (bulk bytes) deeds = bulk_text (first_deed deeds) bytes
reply_pieces_text null deeds = append-nil (reply_text null)
reply_pieces_text (array items) deeds = ap (λ rest. array_head (length items) ++ rest) (items_text items deeds)

-- the pieces of a reply, joined, are its text
pub pieces_text : (command : Command) (deeds : List (Option Deed)) → text_of_pieces (pieces_of command deeds)
    ≡ reply_text (reply_from command deeds)
pieces_text command deeds = reply_pieces_text (reply_from command deeds) deeds

-- the copied text from k on, of which r bytes are a run already, and then these bytes
take_run : (r : ℕ) (rest bytes more : List ℕ) → drop r rest ≡ bytes ++ more → take (r + length bytes) rest ≡ take r rest
    ++ bytes
take_run r rest bytes more is = take-add r (length bytes) rest
    ∙ ap (λ behind. take r rest ++ take (length bytes) behind) is ∙ ap (λ first. take r rest ++ first)
    (take_at bytes more (length bytes) refl)

module _ (read : Reading) (stage text : List ℕ) (staged : IsStaged read stage text) where
  -- n copied bytes from the k-th on
  read_cut : (more k n : ℕ) → n ≤ more → k + n ≤ length text → read_all read (cut stage more k n) ≡ take n (drop k text)
  read_cut zero k n few within = let none : 0 ≡ n = omega arith in ap (λ m. take m (drop k text)) none
  read_cut (suc more) k zero few within = refl
  read_cut (suc more) k (suc n) few within =
      let size : ℕ = min (suc n) (staging_limit - k % staging_limit) in
      let some : 0 < size = omega arith in
      let fits : k % staging_limit + size ≤ staging_limit = omega arith in
      let inside : k + size ≤ length text = omega arith in
      let here : read (slice_index stage (k / staging_limit) + k % staging_limit) size ≡ take size (drop k text) =
      staged.at k size fits inside in
      let few_more : suc n - size ≤ more = omega arith in
      let more_inside : k + size + (suc n - size) ≤ length text = omega arith in
      let rest : read_all read (cut stage more (k + size) (suc n - size))
      ≡ take (suc n - size) (drop size (drop k text)) =
      read_cut more (k + size) (suc n - size) few_more more_inside
      ∙ ap (take (suc n - size)) (sym (drop-drop size k text)) in
      let whole : size + (suc n - size) ≡ suc n = omega arith in
      (λ i. here i ++ rest i) ∙ sym (take-add size (suc n - size) (drop k text)) ∙ ap (λ m. take m (drop k text)) whole

  module _ (threshold : ℕ) where
    -- behind k copied bytes and a run of r more
    Reads : ℕ → ℕ → List Placing → List ℕ → Type 0
    Reads k r placings bytes = read_all read (segments_from stage k (runs r placings)) ≡ take r (drop k text) ++ bytes

    -- bytes that are copied
    copied_next : (k r : ℕ) (bytes more rest : List ℕ) (placings : List Placing) → drop (k + r) text ≡ bytes ++ more
        → Reads k (r + length bytes) placings rest → Reads k r (copied (length bytes) ∷ placings) (bytes ++ rest)
    unfolding Reads
    copied_next k r bytes more rest placings is reads =
        reads ∙ ap (λ front. front ++ rest) (take_run r (drop k text) bytes more (drop-drop r k text ∙ is))
        ∙ append_assoc (take r (drop k text)) bytes rest

    -- a piece that stays where it lies
    pinned_next : (k r : ℕ) (seg : Seg) (bytes rest : List ℕ) (placings : List Placing) → k + r ≤ length text
        → read seg.address seg.len ≡ bytes → Reads (k + r) 0 placings rest
        → Reads k r (pinned seg ∷ placings) (bytes ++ rest)
    unfolding Reads
    pinned_next k r seg bytes rest placings within there reads =
        flat_map-append (λ (s : Seg). read s.address s.len) (cut stage r k r)
        (seg ∷ segments_from stage (k + r) (runs 0 placings))
        ∙ (λ i. read_cut r k r (omega arith) within i ++ (there i ++ reads i))

    -- the run that is left at the end
    last_run : (k r : ℕ) → k + r ≤ length text → Reads k r [] []
    unfolding Reads
    last_run k r within = flat_map-append (λ (s : Seg). read s.address s.len) (cut stage r k r) []
        ∙ ap (λ bytes. bytes ++ []) (read_cut r k r (omega arith) within)

    longer : (k r : ℕ) (bytes more : List ℕ) → k + r ≤ length text → drop (k + r) text ≡ bytes ++ more
        → k + (r + length bytes) ≤ length text
    longer k r bytes more within is =
        omega (arith, ap (λ (list : List ℕ). length list) is, length-drop (k + r) text, length-append bytes more)

    behind : (k r : ℕ) (bytes more : List ℕ) → drop (k + r) text ≡ bytes ++ more → drop (k + (r + length bytes)) text
        ≡ more
    behind k r bytes more is =
        let sum : k + (r + length bytes) ≡ k + r + length bytes = omega arith in
        ap (λ n. drop n text) sum ∙ sym (drop-drop (length bytes) (k + r) text) ∙ ap (drop (length bytes)) is
        ∙ drop_at bytes more (length bytes) refl

    layout_reads : (pieces : List Piece) (k r : ℕ) → k + r ≤ length text → drop (k + r) text
        ≡ copied_text threshold pieces → AllByRecursion (IsThere read) pieces → Reads k r (placings_of threshold pieces)
        (text_of_pieces pieces)
    layout_reads [] k r within is there = last_run k r within
    layout_reads (plain bytes ∷ pieces) k r within is there =
        copied_next k r bytes (copied_text threshold pieces) (text_of_pieces pieces) (placings_of threshold pieces) is
        (layout_reads pieces k (r + length bytes) (longer k r bytes (copied_text threshold pieces) within is)
        (behind k r bytes (copied_text threshold pieces) is) there.1)
    layout_reads (stored address bytes ∷ pieces) k r within is there =
        by_length (nat_le threshold (length bytes)) is
        (λ now. pinned_next k r (segment address (length bytes)) bytes (text_of_pieces pieces)
        (placings_of threshold pieces) within there.0
        (layout_reads pieces (k + r) 0 (omega (arith, within)) (ap (λ n. drop n text) none_more ∙ now) there.1))
        (λ now. copied_next k r bytes (copied_text threshold pieces) (text_of_pieces pieces)
        (placings_of threshold pieces) now
        (layout_reads pieces k (r + length bytes) (longer k r bytes (copied_text threshold pieces) within now)
        (behind k r bytes (copied_text threshold pieces) now) there.1))
      where
        none_more : k + r + 0 ≡ k + r
        none_more = omega arith

        by_length : (long : Bool) → drop (k + r) text ≡ (if long then [] else bytes) ++ copied_text threshold pieces
            → (drop (k + r) text ≡ copied_text threshold pieces
            → Reads k r (pinned (segment address (length bytes)) ∷ placings_of threshold pieces)
            (bytes ++ text_of_pieces pieces))
            → (drop (k + r) text ≡ bytes ++ copied_text threshold pieces
            → Reads k r (copied (length bytes) ∷ placings_of threshold pieces) (bytes ++ text_of_pieces pieces))
            → Reads k r ((if long then pinned (segment address (length bytes)) else copied (length bytes))
            ∷ placings_of threshold pieces) (bytes ++ text_of_pieces pieces)
        by_length true now stays copies = stays now
        by_length false now stays copies = copies now

-- the bytes at a layout's segments, joined, are the text
pub segments_text : (read : Reading) (stage : List ℕ) (threshold : ℕ) (pieces : List Piece)
    → IsStaged read stage (copied_text threshold pieces) → AllByRecursion (IsThere read) pieces
    → read_all read (layout_of stage (placings_of threshold pieces)) ≡ text_of_pieces pieces
unfolding Reads
segments_text read stage threshold pieces staged there =
    layout_reads read stage (copied_text threshold pieces) staged threshold pieces 0 0 (omega arith) refl there
