-- What seats have together.
use Rattle.std.proofs.Common.{ℕ, ap, ◌∙◌, arith}
use Rattle.view_sums.specs.Total.{total, same}
use Rattle.view_sums.proofs.Sums.{total-append}
use Rattle.pinned_pool.specs.Classes.{buffers_in}
use Rattle.pinned_pool.specs.Views.{looked_at}
use Rattle.pinned_pool.specs.declared.view.View.{View}
use Rattle.serve_model.specs.Seats.{JoinsAdd, OneSeat, AnyOrder, IdleStarts}

pub joins_add : JoinsAdd
joins_add seats all seat has = record {
  holds = λ weight. omega (arith, has.holds weight, total-append weight all.holds seat.holds);
  credits = omega (arith, has.credits);
  claims = λ weight. omega (arith, has.claims weight, total-append weight all.claims seat.claims);
  looks = λ b. omega (arith, has.looks b, total-append (λ (l : ℕ × ℕ). same l.0 b) all.looks seat.looks);
  returns = omega (arith, has.returns);
}

pub one_seat : OneSeat
one_seat seat = record {
  holds = λ weight. omega arith;
  credits = omega arith;
  claims = λ weight. omega arith;
  looks = λ b. omega arith;
  returns = omega arith;
}

pub any_order : AnyOrder
any_order seats others all has same = record {
  holds = λ weight. has.holds weight ∙ same (λ (v : View). total weight v.holds);
  credits = has.credits ∙ same (λ (v : View). v.credits);
  claims = λ weight. has.claims weight ∙ same (λ (v : View). total weight v.claims);
  looks = λ b. has.looks b ∙ same (λ (v : View). looked_at b v.looks);
  returns = has.returns ∙ same (λ (v : View). v.returns);
}

pub idle_starts : IdleStarts
idle_starts z rows requests idle seat is sought = record {
  missed = sought.missed;
  missed_are = sought.missed_are;
  claims = λ class. omega (arith, sought.claims class, ap (buffers_in z class) is.claims);
  looks = λ b near. omega (arith, sought.looks b near, ap (looked_at b) is.looks);
}
