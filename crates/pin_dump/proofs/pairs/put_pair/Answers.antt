use Rattle.std.proofs.Common.{rules, ◌≡◌, ℕ, List, ◌++◌, length, codes, refl, sym, ap, ◌∙◌}
use Rattle.any_wire.proofs.Sending.{sends-on, sends-same}
use Rattle.flake_model.specs.Resp.{crlf}
use Rattle.frag_value.specs.Values.{size_of, value_bytes}
use Rattle.frag_value.proofs.Cuts.{length-bytes-value}
use Rattle.pin_dump.proofs.Texts.{head_of, text_is}
use Rattle.pin_dump.proofs.pairs.put_pair.Goals as goal

pub returns-clause-puts : goal.returns-clause-puts
returns-clause-puts g c =
    let hs = c.args.seat.now.holds in
    let key = c.args.pair.now.0 in
    let value = value_bytes hs c.args.pair.now.1 in
    let same : c.key-key.result.now ≡ key = search rules in
    let given = c.value-value.result.now in
    let there : given ≡ c.args.pair.now.1 = c.value-value.ensures in
    let size : c.len.result ≡ length value =
    c.len.ensures ∙ ap size_of there ∙ sym (length-bytes-value hs c.args.pair.now.1 c.requires.value.filled) in
    let start = codes "*3\r\n$3\r\nSET\r\n" in
    sends-same _ _ _ _ _ _ _ _
    (ap (λ (k : List ℕ).
    (((((start ++ head_of (length k)) ++ k) ++ crlf) ++ head_of c.len.result) ++ value_bytes hs given) ++ crlf) same
    ∙ ap (λ (v : List (ℕ × ℕ)).
    (((((start ++ head_of (length key)) ++ key) ++ crlf) ++ head_of c.len.result) ++ value_bytes hs v) ++ crlf) there
    ∙ text_is key value (length key) c.len.result refl size)
    (sends-on _ _ _ _ _ _ _ _ _ _
    (sends-on _ _ _ _ _ _ _ _ _ _
    (sends-on _ _ _ _ _ _ _ _ _ _
    (sends-on _ _ _ _ _ _ _ _ _ _
    (sends-on _ _ _ _ _ _ _ _ _ _
    (sends-on _ _ _ _ _ _ _ _ _ _ c.put_bytes-begun.ensures c.put_head-headed.ensures)
    c.put_bytes-keyed.ensures)
    c.put_bytes-ended.ensures)
    c.put_head-sized.ensures)
    c.put_value-valued.ensures.puts)
    c.put_bytes.ensures)
