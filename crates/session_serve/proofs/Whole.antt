-- How many replies a wire was sent whole, reply by reply.
use Rattle.std.proofs.Common.{◌≡◌, ℕ, ◌+◌, ◌≤◌, Bool, true, false, List, [], ◌∷◌, ◌++◌, length, take, slice_get, Some}
use Rattle.std.proofs.Common.{Option, refl, ap, sym, ◌∙◌, subst, arith, length-append, append-nil}
use Rattle.std.specs.Borrow.{Bor}
use Rattle.std.proofs.Math.Seq.{take-append-add, take-length}
use Rattle.std.proofs.lemmas.List.{map-append, take-append-le, append_cancel_left}
use Rattle.std.proofs.lemmas.Grind.{flat_map-append}
use Rattle.any_wire.specs.Sends.{Sends, Flushes}
use Rattle.any_wire.proofs.Sending.{sends-same, sends-flush}
use Rattle.any_wire.proofs.Behind.{stays-behind, puts-are-sending}
use Rattle.tx_descriptor.specs.declared.framed.Framed.{Ghosts}
use Rattle.tx_ring.specs.Shown.{completed}
use Rattle.tx_ring.specs.declared.device.DeviceEnd.{DeviceEnd}
use Rattle.reply_planner.specs.Parcels.{Sent, texts_in}
use Rattle.device_model.specs.Devices.{reply_as_sent, joined_as_sent, PutsAs, IsFound, IfTaken, IfIdle}
use Rattle.device_model.specs.declared.gathered.Gathered.{Gathered}
use Rattle.device_model.specs.declared.gathered.Gathered.TheVariants as found
use Rattle.device_model.proofs.Forwarding.{joined-one}
use Rattle.device_model.proofs.Puts.{sends-loosened}
use Rattle.any_wire.specs.Texts.{Sending, joined, IsSending}
use Rattle.any_wire.proofs.Texts.{wire_fresh, wire_longer, wire_sent, wire_cut, wire_idle}
use Rattle.session_serve.specs.Forms.{each_as_sent}
use Rattle.session_serve.specs.Whole.{SentWhole, KeepsWhole, SendsMore, raised, whole_bytes_of}
use Rattle.session_serve.proofs.Forms.{each-length, each-none, each-more}

-- the place of the last text, and what is taken with it
last_at : (texts : List (List ℕ)) (text : List ℕ) → slice_get (texts ++ text ∷ []) (length texts) ≡ Some text
last_at [] text = refl
last_at (first ∷ texts) text = last_at texts text

take_all_more : (texts : List (List ℕ)) (text : List ℕ) → take (length texts + 1) (texts ++ text ∷ []) ≡ texts ++ text
    ∷ []
take_all_more texts text = take-append-add texts (text ∷ []) 1

joined_more : (texts : List (List ℕ)) (text : List ℕ) → length (joined (texts ++ text ∷ [])) ≡ length (joined texts)
    + length text
joined_more texts text =
    omega (
      arith,
      ap length (flat_map-append (λ (t : List ℕ). t) texts (text ∷ [])),
      length-append (joined texts) (joined (text ∷ [])),
      ap length (append-nil text),
    )

-- a count that is shown stays so when nothing more is counted
raised_none : (count n : ℕ) → count ≡ raised 0 n → raised count 0 ≡ count
raised_none count n is = omega (arith, is)

raised_more : (count n more : ℕ) → count ≡ raised 0 n → raised count more ≡ raised 0 (n + more)
raised_more count n more is = omega (arith, is)

module _ {W : Type 0} (put_may : W → Bor (List ℕ) → (W × Bool) → Type 0) (flush_may : W → (W × Bool) → Type 0) where
  abbrev sends : Sending W
  sends = Sends put_may flush_may false

  is_sending : IsSending sends
  is_sending = puts-are-sending put_may flush_may

  whole-none : (wire : W) → SentWhole put_may flush_may false [] [] 0 wire wire
  whole-none wire = record {
    whole = 0;
    are_whole = refl;
    grew = wire_fresh sends is_sending [] wire;
    bytes_are = omega arith;
  }

  -- one text more, behind which something has failed or not
  pub whole-one : (failed now : Bool) (sents texts : List (List ℕ)) (sent text : List ℕ) (bytes more : ℕ)
      (start old new : W) → length sents ≡ length texts
      → (now ≡ false → more ≡ length text) → (now ≡ true → more ≡ 0)
      → SentWhole put_may flush_may failed sents texts bytes start old → Sends put_may flush_may failed now sent old new
      → SentWhole put_may flush_may now (sents ++ sent ∷ []) (texts ++ text ∷ []) (raised bytes more) start new
  whole-one true now sents texts sent text bytes more start old new as_many all none was put =
      let stays = stays-behind put_may flush_may now sent old new put in
      let few : was.whole ≤ length texts = was.are_whole in
      let front : was.whole ≤ length sents = omega (arith, few, as_many) in
      let here : SentWhole put_may flush_may true (sents ++ sent ∷ []) (texts ++ text ∷ []) (raised bytes more) start
      old = record {
        whole = was.whole;
        are_whole = omega (arith, few, length-append texts (text ∷ []));
        grew = wire_longer sends is_sending true was.whole (length sents) sents sent start old front
            (omega arith) was.grew;
        bytes_are = ap (raised bytes) (none stays.1) ∙ raised_none bytes _ was.bytes_are ∙ was.bytes_are
            ∙ ap (λ (ts : List (List ℕ)). raised 0 (length (joined ts)))
            (sym (take-append-le was.whole texts (text ∷ []) few));
      } in
      subst (λ (w : W). SentWhole put_may flush_may now (sents ++ sent ∷ []) (texts ++ text ∷ []) (raised bytes more)
      start w) (sym stays.0)
      (subst (λ (b : Bool). SentWhole put_may flush_may b (sents ++ sent ∷ []) (texts ++ text ∷ []) (raised bytes more)
      start old) (sym stays.1) here)
  whole-one false true sents texts sent text bytes more start old new as_many all none was put =
      let is : was.whole ≡ length texts = was.are_whole in
      let front : was.whole ≡ length sents = is ∙ sym as_many in
      let longer = wire_longer sends is_sending false was.whole (length sents) sents sent start old front
      (omega arith) was.grew in
      let at : slice_get (sents ++ sent ∷ []) was.whole ≡ Some sent =
      subst (λ n. slice_get (sents ++ sent ∷ []) n ≡ Some sent) (sym front) (last_at sents sent) in
      record {
        whole = was.whole;
        are_whole = omega (arith, is, length-append texts (text ∷ []));
        grew = wire_cut sends is_sending was.whole (sents ++ sent ∷ []) sent start old new at longer put;
        bytes_are = ap (raised bytes) (none refl) ∙ raised_none bytes _ was.bytes_are ∙ was.bytes_are
            ∙ ap (λ (ts : List (List ℕ)). raised 0 (length (joined ts)))
            (sym (take-append-le was.whole texts (text ∷ []) (omega (arith, is))));
      }
  whole-one false false sents texts sent text bytes more start old new as_many all none was put =
      let is : was.whole ≡ length texts = was.are_whole in
      let last : was.whole ≡ length sents = is ∙ sym as_many in
      let longer = wire_longer sends is_sending false was.whole (length sents) sents sent start old last
      (omega arith) was.grew in
      let at : slice_get (sents ++ sent ∷ []) was.whole ≡ Some sent =
      subst (λ n. slice_get (sents ++ sent ∷ []) n ≡ Some sent) (sym last) (last_at sents sent) in
      let front : take was.whole texts ≡ texts = ap (λ n. take n texts) is ∙ take-length texts in
      let taken : take (was.whole + 1) (texts ++ text ∷ []) ≡ texts ++ text ∷ [] =
      ap (λ n. take (n + 1) (texts ++ text ∷ [])) is ∙ take_all_more texts text in
      let count : bytes ≡ raised 0 (length (joined texts)) = was.bytes_are
      ∙ ap (λ (ts : List (List ℕ)). raised 0 (length (joined ts))) front in
      record {
        whole = was.whole + 1;
        are_whole = omega (arith, is, length-append texts (text ∷ []));
        grew = wire_sent sends is_sending was.whole (sents ++ sent ∷ []) sent start old new at longer put;
        bytes_are = ap (raised bytes) (all refl) ∙ raised_more bytes (length (joined texts)) (length text) count
            ∙ ap (raised 0) (sym (joined_more texts text)) ∙ ap (λ (ts : List (List ℕ)). raised 0 (length (joined ts)))
            (sym taken);
      }

  -- the wire was flushed
  pub whole-flush : (failed now : Bool) (sents texts : List (List ℕ)) (bytes : ℕ) (start old new : W)
      → SentWhole put_may flush_may failed sents texts bytes start old
      → Flushes flush_may failed now old new → SentWhole put_may flush_may now sents texts bytes start new
  whole-flush true now sents texts bytes start old new was flush =
      subst (λ (w : W). SentWhole put_may flush_may now sents texts bytes start w) (sym flush.0)
      (subst (λ (b : Bool). SentWhole put_may flush_may b sents texts bytes start old) (sym flush.1) was)
  whole-flush false true sents texts bytes start old new was flush = record {
    whole = was.whole;
    are_whole = omega (arith, was.are_whole);
    grew = wire_idle sends is_sending true was.whole sents start old new was.grew
        (sends-flush put_may flush_may false true old new flush);
    bytes_are = was.bytes_are;
  }
  whole-flush false false sents texts bytes start old new was flush = record {
    whole = was.whole;
    are_whole = was.are_whole;
    grew = wire_idle sends is_sending false was.whole sents start old new was.grew
        (sends-flush put_may flush_may false false old new flush);
    bytes_are = was.bytes_are;
  }

module _
    {W : Type 0}
    (mtu : Option ℕ)
    (put_may : W → Bor (List ℕ) → (W × Bool) → Type 0)
    (flush_may : W → (W × Bool) → Type 0) where
  -- so it is of replies, each as it is sent
  abbrev pub SentAll : Bool → List Sent → ℕ → W → W → Type 0
  SentAll failed replies bytes old new =
      SentWhole put_may flush_may failed (each_as_sent mtu replies) (texts_in replies) bytes old new

  pub whole-start : (failed : Bool) (posted : List Sent) (bytes : ℕ) (wire : W) → failed ≡ false → posted ≡ []
      → bytes ≡ 0 → SentAll failed posted bytes wire wire
  whole-start failed posted bytes wire flag none zero =
      subst (λ (b : Bool). SentAll b posted bytes wire wire) (sym flag)
      (subst (λ (xs : List Sent). SentAll false xs bytes wire wire) (sym none)
      (subst (λ n. SentAll false [] n wire wire) (sym zero)
      (subst (λ (sents : List (List ℕ)). SentWhole put_may flush_may false sents [] 0 wire wire) (sym (each-none mtu))
      (whole-none put_may flush_may wire))))

  pub whole-more : (failed now : Bool) (before after : List Sent) (bytes more sum : ℕ) (start old new : W)
      → SentAll failed before bytes start old
      → SendsMore mtu put_may flush_may failed now before after more old new → sum ≡ raised bytes more
      → SentAll now after sum start new
  whole-more failed now before after bytes more sum start old new was sends is =
      subst (λ n. SentAll now after n start new) (sym is) (sends bytes start was)

  -- nothing more was sent, and last the wire was flushed
  pub whole-closed : (failed between now : Bool) (before after : List Sent) (bytes shown : ℕ) (start old mid new : W)
      → SentAll failed before bytes start old
      → SendsMore mtu put_may flush_may failed between before after 0 old mid → Flushes flush_may between now mid new
      → shown ≡ bytes → SentAll now after shown start new
  whole-closed failed between now before after bytes shown start old mid new was none flush is =
      subst (λ n. SentAll now after n start new) (sym is)
      (whole-flush put_may flush_may between now (each_as_sent mtu after) (texts_in after) bytes start mid new
      (subst (λ n. SentAll between after n start mid) (raised_none bytes _ was.bytes_are)
      (none bytes start was)) flush)

  -- the same of other replies with the same texts
  pub whole-posted : (failed : Bool) (posted same : List Sent) (bytes : ℕ) (old new : W) → same ≡ posted
      → SentAll failed same bytes old new → SentAll failed posted bytes old new
  whole-posted failed posted same bytes old new is whole =
      subst (λ (ps : List Sent). SentAll failed ps bytes old new) is whole

  -- more is counted on top of what was kept
  pub keeps-on : (failed between now : Bool) (before middle after : List Sent) (bytes counted more shown sum : ℕ)
      (old mid new : W) → KeepsWhole mtu put_may flush_may failed between before middle bytes counted old mid
      → SendsMore mtu put_may flush_may between now middle after more mid new → shown ≡ more
      → sum ≡ raised counted shown → KeepsWhole mtu put_may flush_may failed now before after bytes sum old new
  keeps-on failed between now before middle after bytes counted more shown sum old mid new first then
      is sum_is start was =
      subst (λ n. SentAll now after n start new) (sym (sum_is ∙ ap (raised counted) is))
      (then counted start (first start was))

  -- one reply more was taken
  reply-more : (failed now : Bool) (before after : List Sent) (reply : Sent) (more : ℕ) (old new : W) → after ≡ before
      ++ reply ∷ [] → (now ≡ false → more ≡ length reply.text) → (now ≡ true → more ≡ 0)
      → PutsAs mtu put_may failed now before after old new
      → SendsMore mtu put_may flush_may failed now before after more old new
  reply-more failed now before after reply more old new is all none put bytes start was =
      let one : put.taken ≡ reply ∷ [] = append_cancel_left before put.taken (reply ∷ []) (sym put.in_order ∙ is) in
      let form : joined_as_sent mtu put.taken ≡ reply_as_sent mtu reply =
      ap (joined_as_sent mtu) one ∙ joined-one mtu reply in
      let sent : Sends put_may flush_may failed now (reply_as_sent mtu reply) old new =
      sends-same put_may flush_may failed now (joined_as_sent mtu put.taken) (reply_as_sent mtu reply) old new form
      (sends-loosened put_may flush_may failed now (joined_as_sent mtu put.taken) old new put.sends) in
      let texts : texts_in before ++ reply.text ∷ [] ≡ texts_in (before ++ reply ∷ []) =
      sym (map-append (λ (parcel : Sent). parcel.text) before (reply ∷ [])) in
      subst (λ (xs : List Sent). SentAll now xs (raised bytes more) start new) (sym is)
      (subst (λ (sents : List (List ℕ)). SentWhole put_may flush_may now sents (texts_in (before ++ reply ∷ []))
      (raised bytes more) start new) (sym (each-more mtu before reply))
      (subst (λ (ts : List (List ℕ)). SentWhole put_may flush_may now
      (each_as_sent mtu before ++ reply_as_sent mtu reply ∷ []) ts (raised bytes more) start new) texts
      (whole-one put_may flush_may failed now (each_as_sent mtu before) (texts_in before) (reply_as_sent mtu reply)
      reply.text bytes more start old new (each-length mtu before) all none was sent)))

  pub more-as : (failed other now then : Bool) (before front after all : List Sent) (more shown : ℕ) (old new : W)
      → failed ≡ other → now ≡ then → before ≡ front → after ≡ all → more ≡ shown
      → SendsMore mtu put_may flush_may failed now before after more old new
      → SendsMore mtu put_may flush_may other then front all shown old new
  more-as failed other now then before front after all more shown old new f n b a m sends =
      subst (λ (x : Bool). SendsMore mtu put_may flush_may x then front all shown old new) f
      (subst (λ (x : Bool). SendsMore mtu put_may flush_may failed x front all shown old new) n
      (subst (λ (xs : List Sent). SendsMore mtu put_may flush_may failed now xs all shown old new) b
      (subst (λ (xs : List Sent). SendsMore mtu put_may flush_may failed now before xs shown old new) a
      (subst (λ k. SendsMore mtu put_may flush_may failed now before after k old new) m sends))))

  -- none was
  pub none-more : (before after : List Sent) (failed now : Bool) (old new : W) → after ≡ before → now ≡ failed
      → new ≡ old → SendsMore mtu put_may flush_may failed now before after 0 old new
  none-more before after failed now old new replies flag wire bytes start was =
      subst (λ (w : W). SentAll now after (raised bytes 0) start w) (sym wire)
      (subst (λ (b : Bool). SentAll b after (raised bytes 0) start old) (sym flag)
      (subst (λ (xs : List Sent). SentAll failed xs (raised bytes 0) start old) (sym replies)
      (subst (λ n. SentAll failed before n start old) (sym (raised_none bytes _ was.bytes_are)) was)))

  flush-more : (failed now : Bool) (before after : List Sent) (old new : W) → after ≡ before
      → Flushes flush_may failed now old new → SendsMore mtu put_may flush_may failed now before after 0 old new
  flush-more failed now before after old new same flush bytes start was =
      subst (λ (xs : List Sent). SentAll now xs (raised bytes 0) start new) (sym same)
      (subst (λ n. SentAll now before n start new) (sym (raised_none bytes _ was.bytes_are))
      (whole-flush put_may flush_may failed now (each_as_sent mtu before) (texts_in before) bytes start old new was
      flush))

  module _ {g : Ghosts Sent} where
    -- what one call of a device did
    pub gathered-more : (what : Gathered) (failed now : Bool) (old new : DeviceEnd Sent g) (wire after : W)
        → IsFound what now old new
        → IfTaken what (PutsAs mtu put_may failed now (completed old) (completed new) wire after)
        → IfIdle what (Flushes flush_may failed now wire after)
        → SendsMore mtu put_may flush_may failed now (completed old) (completed new) (whole_bytes_of what) wire after
    gathered-more (found.Sent call bytes) failed now old new wire after is put flush =
        reply-more failed now (completed old) (completed new) is.1.reply bytes wire after is.1.completed_is
        (λ no. is.1.bytes_is) (λ yes. let never : true ≡ false = sym yes ∙ is.0 in absurd (cc)) put
    gathered-more (found.Dropped call bytes) failed now old new wire after is put flush =
        reply-more failed now (completed old) (completed new) is.1.reply 0 wire after is.1.completed_is
        (λ no. let never : true ≡ false = sym is.0 ∙ no in absurd (cc)) (λ yes. refl) put
    gathered-more found.Empty failed now old new wire after is put flush = flush-more failed now (completed old)
        (completed new) wire after (ap (λ m. m.completed) is.1.view) flush
    gathered-more found.Closed failed now old new wire after is put flush = flush-more failed now (completed old)
        (completed new) wire after (ap (λ m. m.completed) is.view) flush
