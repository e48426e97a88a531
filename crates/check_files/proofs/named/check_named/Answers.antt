use Rattle.std.proofs.Common.{◌≡◌, IfOk, IfErr, length, map, drop, arith, sym, subst}
use Rattle.check_files.specs.Answer.{FailedBy, HasCauseIn, WereJudged}
use Rattle.check_files.specs.File.{file_names, file_wholes, file_givens, file_endeds, file_faults}
use Rattle.check_files.specs.Named.{named, AreUnread, FilesOpened, NoneFailed}
use Rattle.check_files.proofs.Answered.{caused_so, judged_so, failed_by, written_back}
use Rattle.check_files.proofs.named.check_named.Goals as goal

pub returns-in-Ok-clause-verdict : goal.returns-in-Ok-clause-verdict
returns-in-Ok-clause-verdict g c =
    let files = c.check_files-answer.new.files in
    let held = c.as_mut_slice.result.now in
    let many : c.in-Ok.files.len ≡ length files =
    omega (arith, c.check_files-answer.auto.files, c.as_mut_slice.ensures.len, c.in-Ok.files.ok.0) in
    let back = written_back files (drop (length files) c.in-Ok.files.items) c.in-Ok.files.len many in
    let words = map named c.args.names.now in
    let opened = subst (λ fs. FilesOpened words (g.H.Host.host_told c.args.host.now)
    (g.H.Host.host_told c.open_named.new.host) (file_names (λ s. g.H.In.Source.name s) fs)
    (file_wholes (λ s. g.H.In.Source.whole s) fs)) (sym c.as_mut_slice.ensures.value) c.in-Ok.ensures.opened in
    let unread = subst (λ fs. AreUnread words (file_givens (λ s. g.H.In.Source.given s) fs)
    (file_endeds (λ s. g.H.In.Source.ended s) fs)) (sym c.as_mut_slice.ensures.value) c.in-Ok.ensures.unread in
    let said = c.check_files-answer.ensures in
    subst (λ fs. IfOk c.check_files-answer.result
    (WereJudged words (g.H.Host.host_told c.args.host.now) (g.H.Host.host_told c.open_named.new.host)
    (file_names (λ s. g.H.In.Source.name s) fs) (file_wholes (λ s. g.H.In.Source.whole s) fs)
    (file_givens (λ s. g.H.In.Source.given s) fs) (file_endeds (λ s. g.H.In.Source.ended s) fs))) (sym back)
    (judged_so (λ s. g.H.In.Source.name s) (λ s. g.H.In.Source.whole s) (λ s. g.H.In.Source.given s)
    (λ s. g.H.In.Source.ended s) words _ _ held files opened unread said.names said.wholes
    c.check_files-answer.result said.verdict said.ended)

pub returns-in-Ok-clause-err : goal.returns-in-Ok-clause-err
returns-in-Ok-clause-err g c =
    let files = c.check_files-answer.new.files in
    let held = c.as_mut_slice.result.now in
    let many : c.in-Ok.files.len ≡ length files =
    omega (arith, c.check_files-answer.auto.files, c.as_mut_slice.ensures.len, c.in-Ok.files.ok.0) in
    let back = written_back files (drop (length files) c.in-Ok.files.items) c.in-Ok.files.len many in
    let words = map named c.args.names.now in
    let opened = subst (λ fs. FilesOpened words (g.H.Host.host_told c.args.host.now)
    (g.H.Host.host_told c.open_named.new.host) (file_names (λ s. g.H.In.Source.name s) fs)
    (file_wholes (λ s. g.H.In.Source.whole s) fs)) (sym c.as_mut_slice.ensures.value) c.in-Ok.ensures.opened in
    let unread = subst (λ fs. AreUnread words (file_givens (λ s. g.H.In.Source.given s) fs)
    (file_endeds (λ s. g.H.In.Source.ended s) fs)) (sym c.as_mut_slice.ensures.value) c.in-Ok.ensures.unread in
    let said = c.check_files-answer.ensures in
    subst (λ fs. IfErr c.check_files-answer.result
    (HasCauseIn words (g.H.Host.host_told c.args.host.now) (g.H.Host.host_told c.open_named.new.host)
    (file_names (λ s. g.H.In.Source.name s) fs) (file_wholes (λ s. g.H.In.Source.whole s) fs)
    (file_givens (λ s. g.H.In.Source.given s) fs) (file_endeds (λ s. g.H.In.Source.ended s) fs))) (sym back)
    (caused_so (λ s. g.H.In.Source.name s) (λ s. g.H.In.Source.whole s) (λ s. g.H.In.Source.given s)
    (λ s. g.H.In.Source.ended s) words _ _ held files opened unread said.names said.wholes
    c.check_files-answer.result said.err said.reads)

pub returns-in-Ok-clause-failed : goal.returns-in-Ok-clause-failed
returns-in-Ok-clause-failed g c =
    let files = c.check_files-answer.new.files in
    let held = c.as_mut_slice.result.now in
    let many : c.in-Ok.files.len ≡ length files =
    omega (arith, c.check_files-answer.auto.files, c.as_mut_slice.ensures.len, c.in-Ok.files.ok.0) in
    let back = written_back files (drop (length files) c.in-Ok.files.items) c.in-Ok.files.len many in
    let fresh = subst (λ fs. NoneFailed (file_faults (λ s. g.H.In.Source.read_faults s) fs))
    (sym c.as_mut_slice.ensures.value) c.in-Ok.ensures.fresh in
    subst (λ fs. IfErr c.check_files-answer.result
    (λ e. FailedBy e (file_faults (λ s. g.H.In.Source.read_faults s) fs))) (sym back)
    (failed_by c.check_files-answer.result (file_faults (λ s. g.H.In.Source.read_faults s) held)
    (file_faults (λ s. g.H.In.Source.read_faults s) files) fresh c.check_files-answer.ensures.counts)
