use Rattle.std.proofs.Common.{None, refl}
use Rattle.resp_reader.specs.Reader.{progress}
use Rattle.resp_reader.proofs.Fed.{nothing_fed}
use Rattle.resp_reader.proofs.reader.Reader.new.Goals as goal

pub returns-clause-fed : goal.returns-clause-fed
returns-clause-fed c = nothing_fed (progress c.new.result None) c.new.ensures.ready c.new.ensures.front
    c.new.ensures.place refl
