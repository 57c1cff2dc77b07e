use Rattle.std.proofs.Common.{rules, tests, ◌≡◌, ◌+◌, ◌<◌, ℕ, List, map, length, Some, None, Option}
use Rattle.std.specs.List.{AllWithin, HoldsAt}
use Rattle.std.specs.Option.{MatchOption}
use Rattle.build.specs.Hands.{LastOf}
use Rattle.build.specs.Models.{held}
use Rattle.build.specs.declared.tokens.Token.{Token}
use Rattle.build.proofs.Handing.{last_none, last_some}
use Rattle.build.proofs.tokens.Tokens.last_of.Goals as goal

-- where the search stopped
abbrev Found : ℕ → List Token → Option ℕ → Type 0
Found m ts r = MatchOption r (AllWithin (λ (t : Token). t.by ≡ m → ⊥) ts 0 (length ts)) (λ i. (i < length ts) × HoldsAt (λ (t : Token). t.by ≡ m) ts i × AllWithin (λ (t : Token). t.by ≡ m → ⊥) ts (i + 1) (length ts))

stopped : (m : ℕ) (ts : List Token) (r : Option ℕ) → Found m ts r → LastOf m (map held ts) r
stopped m ts None none = last_none m ts none
stopped m ts (Some i) found = last_some m ts i found.0 found.1 found.2

pub returns : goal.returns
returns c =
    let found : Found c.args.make c.args.self.now.held.items c.rposition.result = search (rules, tests) in
    stopped c.args.make c.args.self.now.held.items c.rposition.result found
