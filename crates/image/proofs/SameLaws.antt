-- Two plans that agree at every index lay the same bytes.
use mathlib.Core.Path.{◌≡◌, refl}
use Prim.Native.Nat.{ℕ, zero, suc, ◌+◌, ◌≤◌, ◌<◌}
use native.Mathlib.Omega.{arith}
use lib.ListN.{length}
use Rattle.layout.specs.Sizes.{chunk_size}
use Rattle.image.specs.Plan.{Plan, filter_word, value_start, item_bytes, payload, place, record_bytes, records, plan_bytes}
use Rattle.image.specs.Fits.{SamePlan}
use Rattle.image.proofs.PlanLaws.{words_same}

module _ (p q : Plan) (s : SamePlan p q) where
  start_same : (k at : ℕ) → k < p.count → value_start p k at ≡ value_start q k at
  unfolding value_start
  start_same k at l = rw (s.align k l, s.fragment k l)

  item_same : (k at : ℕ) → k < p.count → item_bytes p k at ≡ item_bytes q k at
  unfolding item_bytes
  item_same k at l = rw (start_same k at l, s.fragment k l, s.value k (value_start q k at) l)

  payload_same : (at k : ℕ) → k ≤ p.count → payload p at k ≡ payload q at k
  unfolding payload
  payload_same at zero l = refl
  payload_same at (suc k) l = rw (payload_same at k (omega arith), item_same k (at + length (payload q at k)) l)

  offset_same : (at k : ℕ) → k ≤ p.count → place p at k ≡ place q at k
  unfolding place
  offset_same at k l = rw (payload_same at k l)

  record_same : (k at start : ℕ) → k < p.count → record_bytes p k at start ≡ record_bytes q k at start
  unfolding record_bytes
  record_same k at start l = rw (s.hash k l, s.parent k l, s.fragment k l, s.kind k l, s.covers k l)

  records_same : (at k : ℕ) → k ≤ p.count → records p at k ≡ records q at k
  unfolding records
  records_same at zero l = refl
  records_same at (suc k) l =
      rw (
        records_same at k (omega arith),
        offset_same at k (omega arith),
        start_same k (place q at k) l,
        record_same k (place q at k) (value_start q k (place q at k)) l,
      )

  filter_same : (w k n : ℕ) → n ≤ p.count → filter_word p.hash w k n ≡ filter_word q.hash w k n
  unfolding filter_word
  filter_same w k zero l = refl
  filter_same w k (suc n) l = rw (s.hash n l, filter_same w k n (omega arith))

  pub plan_same : (at : ℕ) → plan_bytes p at ≡ plan_bytes q at
  unfolding plan_bytes
  plan_same at =
      rw (
        words_same (λ k. filter_word p.hash p.filter k p.count) (λ k. filter_word q.hash p.filter k p.count) p.filter
            (λ k l. filter_same p.filter k p.count (omega arith)),
        words_same p.first q.first p.count s.first,
        records_same (at + chunk_size p.filter p.count) p.count (omega arith),
        payload_same (at + chunk_size p.filter p.count) p.count (omega arith),
        s.count,
        s.filter,
      )
