use Rattle.std.proofs.Common.{rules, tests, ◌≡◌, sym, refl, ◌∙◌}
use Rattle.std.proofs.lemmas.Iterator.{YieldsList-from_slice}
use Rattle.std.proofs.lemmas.Iterator.Search.{all_from_yields_List}
use Rattle.lines.specs.Words.{every, line_byte}
use Rattle.lines.proofs.Yielding.{every_all}
use Rattle.lines.proofs.words.check_bytes.Goals as goal
use Rattle.lines.proofs.words.check_bytes.Goals.{After-all}

-- the test of all bytes
tested : (c : After-all) → c.all.result ≡ every line_byte c.args.line.now
tested c =
    all_from_yields_List line_byte _ _ c.all.result c.all.ensures.ran (YieldsList-from_slice c.args.line.now c.iter.ensures.rest) (λ x b q k. search (rules, tests)) ∙
    every_all line_byte c.args.line.now

pub returns-then-not-all : goal.returns-then-not-all
returns-then-not-all c =
    record { result = (sym (tested (goal.at.returns-then-not-all c).After-all) ∙ c.if-not-all.true, refl) }

pub returns : goal.returns
returns c = record { result = sym (tested (goal.at.returns c).After-all) ∙ c.if-not-all.false }
