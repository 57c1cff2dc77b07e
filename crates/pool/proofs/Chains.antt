-- Chains of steps end to end. Assumes nothing.
use Rattle.std.proofs.Common.{List, [], ◌∷◌, ◌++◌, refl, subst}
use Rattle.pool.specs.Chain.{Chain}

module _ {S P : Type 0} (did : S → P → P → Type 0) where
  -- two chains, the second from where the first ended
  pub chain_append : (ss ts : List S) (p m q : P) → Chain did ss p m → Chain did ts m q → Chain did (ss ++ ts) p q
  chain_append [] ts p m q c d = subst (λ x. Chain did ts x q) c d
  chain_append (s ∷ ss) ts p m q c d = (c.0, c.1, chain_append ss ts c.0 m q c.2 d)

  -- a chain cut in two
  pub chain_split : (ss ts : List S) (p q : P) → Chain did (ss ++ ts) p q → (m : P) × Chain did ss p m × Chain did ts m q
  chain_split [] ts p q c = (p, refl, c)
  chain_split (s ∷ ss) ts p q c =
      let rest = chain_split ss ts c.0 q c.2 in
      (rest.0, (c.0, c.1, rest.1), rest.2)

  -- one step more at the end
  pub chain_more : (ss : List S) (s : S) (p m q : P) → Chain did ss p m → did s m q → Chain did (ss ++ s ∷ []) p q
  chain_more ss s p m q c d = chain_append ss (s ∷ []) p m q c (q, d, refl)
