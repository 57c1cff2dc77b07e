-- What a build at work stands for.
use Rattle.std.specs.Prelude.{List, map, reverse, vec_items}
use Rattle.build.specs.Lost.{noted_losses}
use Rattle.build.specs.declared.start.Start.{Start as Made}
use Rattle.build.specs.declared.tokens.Token.{Token}
use Rattle.build.specs.declared.tokens.Tokens.{Tokens}
use Rattle.build.specs.declared.work.Work.{Work}
use Rattle.law.specs.Calls.{Status}
use Rattle.rules.specs.Builds.{Build, Held}
use Rattle.rules.specs.Plans.{plan_of}
use Rattle.rules.specs.Settling.{Start}
use Rattle.tree.specs.Questions.{nodes_of}

-- a token in a make's hand, and a start, as the rules have them
abbrev pub held : Token → Held
held t = record { by = t.by; byte = t.byte }

abbrev pub may_start : Made → Start
may_start s = record { make = s.make; child = s.child }

-- the tokens in hand, the one taken last first
abbrev pub in_hand : Tokens → List Held
in_hand t = reverse (map held t.held.items)

-- the build of the rules
abbrev pub model : Work → Build
model e = record {
  plan = plan_of (nodes_of e.tree);
  keep = e.keep;
  nodes = vec_items e.nodes;
  tokens = in_hand e.tokens;
  losses = noted_losses e.losses;
}

-- with how much of the schedule is written
abbrev pub status : Work → Status
status e = record { build = model e; written = e.written }
