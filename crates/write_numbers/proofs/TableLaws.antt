-- Laws of one table's steps: its items collected, and given their indices.
use Prim.Native.Nat.{ℕ, ◌≤◌, ◌<◌}
use native.Mathlib.Omega.{arith}
use mathlib.Core.Path.{◌≡◌, sym, ap, ◌∙◌}
use mathlib.Core.List.{List}
use lib.ListN.{length, take}
use Rattle.key_hash.specs.declared.hash.Form.{Form}
use Rattle.key_hash.specs.Hash.{rule_of}
use Rattle.words.specs.Store.{put_at}
use Rattle.words.proofs.StoreLaws.{part-put}
use Rattle.layout.specs.Limits.{most_items}
use Rattle.model.specs.Table.{times}
use Rattle.build_memory.specs.Memory.{item_total}
use Rattle.image.specs.Index.{key_order, hashes_of, by_bucket}
use Rattle.write_order.specs.Key.{Known}
use Rattle.write_order.specs.Chain.{Empty, links_of, starts}
use Rattle.write_order.specs.Items.{hashes_in, by_rank, rank_hashes, items_at}
use Rattle.write_order.proofs.KeyLaws.{order_keyed}
use Rattle.write_order.proofs.LinkLaws.{links_long, link_at}
use Rattle.write_order.proofs.ItemLaws.{hashes_order, items_index}
use Rattle.write_numbers.specs.Roster.{state_of}
use Rattle.write_numbers.specs.Fill.{all_of_table, Fit, Judged, Collected, IndexedAs}
use Rattle.write_numbers.proofs.OfTableLaws.{of_table_once}
use Rattle.write_numbers.proofs.StateLaws.{state_members, state_same, state_hash, all_of_table_known, all_of_table_few}

-- the links hold the empty mark
pub links_empty : (ws : List ℕ) → Fit ws → Empty (links_of ws)
unfolding Empty
links_empty ws fit i h =
    let inside : i < most_items = omega (arith, links_long ws fit.long) in
    link_at ws fit.long i inside ∙ fit.empty i inside

-- ---- collected, then given their indices

module _ {ws ar : List ℕ} {t n : ℕ} {out members : List ℕ} (judged : Judged ws ar) (k : Collected ws t n out members) (room : most_items ≤ length out) where
  pub collected_few : n ≤ most_items
  collected_few = omega (arith, all_of_table_few ws t judged.fit, k.count)

  collected_is : take n members ≡ all_of_table ws t
  collected_is = rw (k.put, k.count) (part-put out 0 (all_of_table ws t) (omega (arith, collected_few, k.count)))

  pub collected_long : length (take n members) ≡ n
  collected_long = ap length collected_is ∙ sym k.count

  pub collected_known : Known ws (take n members)
  collected_known = rw collected_is (all_of_table_known ws t judged.fit)

  pub collected_once : (x : ℕ) → times x (take n members) ≤ 1
  unfolding all_of_table
  collected_once x = rw collected_is (of_table_once ws x t (item_total ws))

  -- in the order of their keys they are the table's
  collected_order : by_rank ws ar (take n members) ≡ key_order (state_of ws ar t)
  collected_order =
      ap (by_rank ws ar) (collected_is ∙ sym (state_members ws ar t)) ∙ order_keyed ws ar (state_of ws ar t) (state_same ws ar t)

  module _ (form : Form) where
    collected_hashes : rank_hashes form ws ar (take n members) ≡ hashes_of (rule_of form) (state_of ws ar t)
    collected_hashes =
        ap (hashes_in form ws ar) collected_order ∙ hashes_order form ws ar (state_of ws ar t) (λ i h. state_hash ws ar t i judged h) (λ i h. state_same ws ar t i h)

    pub laid : {items items' firsts firsts' : List ℕ} → items' ≡ put_at items 0 (items_at (by_rank ws ar (take n members)) (by_bucket (rank_hashes form ws ar (take n members))))
        → firsts' ≡ put_at firsts 0 (starts (rank_hashes form ws ar (take n members))) → IndexedAs (rule_of form) ws ar t n items items' firsts firsts'
    laid {items} {items'} {firsts} {firsts'} ei ef = record {
      count = k.count ∙ ap length (sym (state_members ws ar t));
      items_are = ei ∙ ap (put_at items 0) (rw (collected_hashes, collected_order) (items_index (rule_of form) (state_of ws ar t)));
      firsts_are = ef ∙ ap (λ (l : List ℕ). put_at firsts 0 (starts l)) collected_hashes;
    }
