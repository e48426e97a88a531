use Rattle.std.proofs.Common.{◌≡◌, None, length, refl, sym, ap, ◌∙◌, subst}
use Rattle.std.specs.Option.{option_map}
use Rattle.flake_model.specs.Deed.{places_at}
use Rattle.frag_value.specs.Values.{value_bytes}
use Rattle.pinned_pool.specs.declared.view.View.{View}
use Rattle.shard_core.specs.Kept.{Entries, Agrees, value_at, value_addresses}
use Rattle.shard_core.specs.KeptViews.{kept_view}
use Rattle.shard_core.specs.ShardMaps.{ShardState}
use Rattle.shard_core.proofs.Changed.{missing_key}
use Rattle.shard_core.proofs.Appends.{paid_row, none_row, none_kept, add_done}
use Rattle.shard_core.proofs.Free.{append_stores}
use Rattle.shard_core.proofs.Needs.{first_needs}
use Rattle.shard_core.proofs.adding.add_first.Goals as goal

pub place_first-requires-clause-missing : goal.place_first-requires-clause-missing
place_first-requires-clause-missing g c = missing_key c.args.key.now c.args.kept.now.values.entries c.requires.missing

pub returns-clause-kept : goal.returns-clause-kept
returns-clause-kept g c = record { poor = c.in-Ok.ensures.placed.poor; held = c.in-Ok.ensures.placed.held }

pub returns-clause-part : goal.returns-clause-part
returns-clause-part g c = λ t.
    let z = g.P.PoolName.sizes in
    let at = c.in-Ok.ensures.placed in
    let key = c.args.key.now in
    let bytes = c.args.bytes.now in
    let es = c.args.kept.now.values.entries in
    let was : ShardState = record {
      shard = kept_view c.args.kept.now;
      payer = c.args.payer.now;
      stored = c.args.stored.now.items;
      taken = t;
    } in
    let is : ShardState = record {
      shard = kept_view c.place_first.new.kept;
      payer = c.place_first.new.payer;
      stored = c.place_first.new.stored.items;
      taken = t;
    } in
    let missing : option_map (value_bytes c.args.kept.now.own.holds) (value_at key es) ≡ None =
    ap (option_map (value_bytes c.args.kept.now.own.holds)) (missing_key key es c.requires.missing) in
    record {
      done = λ s p a. add_done z key bytes s p was is refl None (sym (a.bytes key) ∙ missing) (length bytes) at.value
          refl c.requires.few at.cut (none_kept key bytes (value_addresses z at.value) (places_at p key)) at.segs_are
          (at.agrees s p a);
      same = λ s p a. tt;
      untold = tt;
      untaken = tt;
      cause = tt;
      needs = tt;
      paid = paid_row z key bytes _ c.args.payer.now c.place_first.new.payer c.in-Ok.ensures.paid;
      pays = λ s p a stored.
          absurd (append_stores s key bytes None (sym missing ∙ a.bytes key) c.requires.few stored);
    }

pub returns-in-Err-clause-part : goal.returns-in-Err-clause-part
returns-in-Err-clause-part g c = λ t.
    let z = g.P.PoolName.sizes in
    let key = c.args.key.now in
    let bytes = c.args.bytes.now in
    let es = c.args.kept.now.values.entries in
    let was : ShardState = record {
      shard = kept_view c.args.kept.now;
      payer = c.args.payer.now;
      stored = c.args.stored.now.items;
      taken = t;
    } in
    let is : ShardState = record {
      shard = kept_view c.place_first.new.kept;
      payer = c.place_first.new.payer;
      stored = c.place_first.new.stored.items;
      taken = t;
    } in
    let missing : option_map (value_bytes c.args.kept.now.own.holds) (value_at key es) ≡ None =
    ap (option_map (value_bytes c.args.kept.now.own.holds)) (missing_key key es c.requires.missing) in
    let same = c.in-Err.ensures.refused in
    record {
      done = λ s p a. tt;
      same = λ s p a. subst (λ (y : Entries × View). Agrees z y.0 y.1.holds s p)
          (λ i. (sym same.entries i, sym same.seat i)) a;
      untold = same.segs_are;
      untaken = refl;
      cause = none_row z key bytes c.in-Err.error c.args.payer.now c.place_first.new.payer c.in-Err.ensures.cause;
      needs = first_needs z key bytes c.in-Err.error was is missing c.requires.few c.in-Err.ensures.cause;
      paid = paid_row z key bytes _ c.args.payer.now c.place_first.new.payer c.in-Err.ensures.paid;
      pays = λ s p a stored.
          absurd (append_stores s key bytes None (sym missing ∙ a.bytes key) c.requires.few stored);
    }
