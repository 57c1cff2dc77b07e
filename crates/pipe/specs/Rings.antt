-- The queue in a ring as bytes enter and leave. Assumes nothing.
use Rattle.std.specs.Prelude.{◌≡◌, ℕ, zero, suc, ◌+◌, ◌-◌, ◌<◌, ◌≢◌, List, [], ◌∷◌, ◌++◌, length, slice_index, slice_set, refl}
use Rattle.std.proofs.Common.{ap, ◌∙◌, add-one, arith, get_or-set_same, get_or-set_other}
use Rattle.pipe.specs.Queue.{behind, queue}

pub length_queue : (ring : List ℕ) (h n : ℕ) → length (queue ring h n) ≡ n
unfolding queue
length_queue ring h zero = refl
length_queue ring h (suc n) = ap suc (length_queue ring (behind h 1) n)

-- what leaves is the byte at the head, and the rest begins one slot behind it
pub left : (ring : List ℕ) (h n : ℕ) → 0 < n → queue ring h n ≡ slice_index ring h ∷ queue ring (behind h 1) (n - 1)
unfolding queue
left ring h zero some = absurd (omega arith)
left ring h (suc n) some =
    let less : n ≡ suc n - 1 = omega arith in
    ap (λ m. slice_index ring h ∷ queue ring (behind h 1) m) less

queue_push : (ring : List ℕ) (h n b : ℕ) → h < 63 → n < 63 → length ring ≡ 63 → queue (slice_set ring (behind h n) b) h (suc n) ≡ queue ring h n ++ b ∷ []
unfolding queue
queue_push ring h zero b inside room size =
    let here : behind h 0 ≡ h = omega arith in
    ap (λ x. x ∷ []) (ap (λ i. slice_index (slice_set ring i b) h) here ∙ get_or-set_same ring h b 0 (omega arith))
queue_push ring h (suc n) b inside room size =
    let apart : h ≢ behind h (suc n) = omega arith in
    let slot : behind h (suc n) ≡ behind (behind h 1) n = omega arith in
    let first = get_or-set_other ring (behind h (suc n)) h b 0 apart in
    let rest = queue_push ring (behind h 1) n b (omega arith) (omega arith) size in
    λ i. first i ∷ (ap (λ s. queue (slice_set ring s b) (behind h 1) (suc n)) slot ∙ rest) i

-- what is written behind the last byte comes at the end
pub entered : (ring : List ℕ) (h n b : ℕ) → h < 63 → n < 63 → length ring ≡ 63 → queue (slice_set ring (behind h n) b) h (n + 1) ≡ queue ring h n ++ b ∷ []
entered ring h n b inside room size = rw add-one (queue_push ring h n b inside room size)
