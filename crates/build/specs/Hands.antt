-- The store of tokens in hand: how many there are of a byte, and which goes back.
use Rattle.std.specs.Prelude.{◌≡◌, ℕ, ◌+◌, ◌<◌, ◌≤◌, Bool, List, ◌++◌, map, reverse, length, take, drop, Some, None, Option, nat_eq, nat_lt, slice_index_or}
use Rattle.pool.specs.Meaning.{count}
use Rattle.pool.specs.Ways.{Ways}
use Rattle.rules.specs.Ending.{goes_back}
use Rattle.rules.specs.Lists.{those}
use Rattle.rules.specs.Builds.{Held}

-- how many tokens of this byte are in hand
abbrev pub in_hands : ℕ → List Held → ℕ
in_hands k hs = count k (map (λ h. h.byte) hs)

-- the bytes that the make holds, oldest first
abbrev pub own_bytes : ℕ → List Held → List ℕ
own_bytes m hs = reverse (map (λ h. h.byte) (those (λ h. nat_eq h.by m) hs))

-- whether of the byte of this token fewer are out than are in hand
abbrev pub short_at : List Held → (ℕ → ℕ) → Held → Bool
short_at hs outs h = nat_lt (outs h.byte) (in_hands h.byte hs)

-- where the token stands that the make took last, if it holds any; the tokens are given oldest first
abbrev pub LastOf : ℕ → List Held → Option ℕ → Type 0
LastOf m xs None = goes_back m (reverse xs) ≡ None
LastOf m xs (Some i) =
    (i < length xs)
    × ((x : Held) → x ≡ slice_index_or xs i x → goes_back m (reverse xs) ≡ Some (x.byte, reverse (drop (i + 1) xs) ++ reverse (take i xs)))

-- the make gave back the token that it took last, or it held none
abbrev pub GaveBack : ℕ → List Held → Option ℕ → List Held → Type 0
GaveBack m hs None hs' = (goes_back m hs ≡ None) × (hs' ≡ hs)
GaveBack m hs (Some byte) hs' = goes_back m hs ≡ Some (byte, hs')

-- of each byte at least as many are out of the pool as the makes hold
abbrev pub Backed : {P : Type 0} → Ways P → P → List Held → Type 0
Backed w p hs = (k : ℕ) → in_hands k hs ≤ (w.means p).outs k
