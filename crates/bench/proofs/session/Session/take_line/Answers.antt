-- `bench::session::Session::take_line` meets its contract: each stage has what is made of its line.
-- Assumes nothing.
use mathlib.Core.Path.{refl}
use native.Mathlib.Omega.{arith}
use Rattle.bench.specs.Sessions.{Takes}
use Rattle.bench.proofs.ServeLaws.{refused_made}
use Rattle.bench.proofs.session.Session.take_line.Goals as goal

pub returns-in-MeasureNames : goal.returns-in-MeasureNames
unfolding Takes
returns-in-MeasureNames c = rw c.in-MeasureNames.is (record { made = record { written = refl; stage = refl; shelf = refl }; few = omega arith })

pub returns-in-Measures : goal.returns-in-Measures
unfolding Takes
returns-in-Measures c = rw c.in-Measures.is (record { made = c.«open».ensures.made; few = c.«open».ensures.few })

pub returns-in-CallNames : goal.returns-in-CallNames
unfolding Takes
returns-in-CallNames c = rw c.in-CallNames.is (record { made = record { written = refl; stage = refl; shelf = refl }; few = omega arith })

pub returns-in-Calls : goal.returns-in-Calls
unfolding Takes
returns-in-Calls c = rw c.in-Calls.is (record { made = c.answer.ensures.made; few = c.answer.ensures.few })

pub returns-in-Refused : goal.returns-in-Refused
returns-in-Refused c = refused_made _ _ _ c.in-Refused.is
