-- On honest memory each call answers what the model answers, and the memory after means the model's builder after.
use Rattle.std.specs.Prelude.{Ok, Err, Result}
use Rattle.model.specs.Inserted.{Inserted}
use Prim.Native.Nat.{ℕ, zero, suc, ◌≤◌, ◌<◌}
use native.Mathlib.Numerals.{add-one}
use native.Mathlib.Omega.{arith}
use mathlib.Core.Path.{◌≡◌, refl, sym, ap, ◌∙◌, subst}
use mathlib.Core.Bool.{Bool, true, false, not, ◌&&◌}
use borrow.Author.Tests.{eq-eqb, ltb-true, ltb-false, leb-false}
use lib.Dec.{eqb, ltb, leb}
use Rattle.text.specs.Utf8.{first_bad, is_utf8}
use Rattle.layout.specs.declared.refusal.Refusal.{Refusal}
use Rattle.layout.specs.Limits.{longest_key, most_tables}
use Rattle.model.specs.Builder.{separator_of}
use Rattle.layout.specs.Kind.{value_kind}
use Rattle.build_memory.specs.Memory.{least_words, fresh_words, table_total, item_total, room_used, table_separator, table_placed, item_table, Outcome}
use Rattle.build_memory.specs.Item.{stored}
use Rattle.build_tables.specs.Table.{free_standing, add_table, new_table, not_added}
use Rattle.build_tables.proofs.TableLaws.{free_standing_facts}
use Rattle.build_values.specs.Insert.{insert_below_path, keyed, insert_at_key, insert_value}
use mathlib.Core.List.{List, [], ◌∷◌, ◌++◌}
use lib.ListN.{length, length-append}
use Rattle.words.specs.Choice.{pick}
use Rattle.words.proofs.ChoiceLaws.{pick_true}
use Rattle.layout.specs.declared.refusal.Refusal.TheVariants.{TableUnknown, KeyNotUtf8, KeyTooLong, SeparatorOutside, TooManyTables}
use Rattle.model.specs.Table.{Content, Entry, entry_at, members_below}
use Rattle.model.specs.Builder as told
use Rattle.model.specs.Builder.{Standing, standing_at, Reply, result, put}
use Rattle.build_tables.specs.Table as tables
use Rattle.build_memory.specs.Meaning.{entry_of, standing_of, listed, meaning}
use Rattle.history.specs.Items.{item_of, table_of}
use Rattle.history.specs.Honest.{Honest}
use Rattle.history.proofs.TidyTables as low
use Rattle.history.proofs.HonestCalls.{sep_same, placed_word, tabled, two, three, kept_low, kept_high, size, loose, mark, same_table, sep_domain}
use Rattle.history.proofs.History.{honest_valid}
use Rattle.history.proofs.Meaning.{content_from, entry_from, standing_from, standing_is, entry_is, items_of, tables_of, builder, builder_same, items_count, tables_count, item_at_lem, listed_more, listed_cong}
use Rattle.history.proofs.ModelInsert.{Alike, alike_pick, alike_refused, meant_sizes, meant_standing, walked_alike}

meant_count : (ws ar : List ℕ) → length (meaning ws ar).tables ≡ table_total ws
unfolding meaning
meant_count ws ar = tables_count ws

standing_placed : (ws : List ℕ) (t : ℕ) → not (standing_of ws t).placed ≡ eqb (table_placed ws t) 0
unfolding standing_of
standing_placed ws t = by_test (eqb (table_placed ws t) 0)
  where
    by_test : (q : Bool) → not (not q) ≡ q
    by_test true = refl
    by_test false = refl

pub free_standing_same : (ws ar : List ℕ) (t : ℕ) → free_standing ws t ≡ told.free_standing (meaning ws ar) t
unfolding free_standing told.free_standing
free_standing_same ws ar t = by_field (ltb t (table_total ws)) refl ∙ ap (λ (n : ℕ). ltb t n && not (standing_at (meaning ws ar) t).placed) (sym (meant_count ws ar))
  where
    by_field : (q : Bool) → ltb t (table_total ws) ≡ q → (ltb t (table_total ws) && eqb (table_placed ws t) 0) ≡ (ltb t (table_total ws) && not (standing_at (meaning ws ar) t).placed)
    by_field true q =
        ap (λ (b : Bool). ltb t (table_total ws) && b)
        (sym (standing_placed ws t) ∙ ap (λ (s : Standing). not s.placed) (sym (meant_standing ws ar t (ltb-true t (table_total ws) q))))
    by_field false q = ap (λ (b : Bool). b && eqb (table_placed ws t) 0) q ∙ sym (ap (λ (b : Bool). b && not (standing_at (meaning ws ar) t).placed) q)

pub keyed_alike : (ws ar k : List ℕ) (o : Outcome Inserted) (r : Reply Inserted) → (is_utf8 k ≡ true → length k ≤ longest_key → Alike o r)
    → Alike (keyed ws ar k o) (told.keyed (meaning ws ar) k r)
unfolding keyed told.keyed
keyed_alike ws ar k o r f =
    alike_pick (is_utf8 k) _ _ _ _
    (λ text. alike_pick (ltb longest_key (length k)) _ _ _ _ (λ b. alike_refused KeyTooLong ws ar) (λ b. f text (ltb-false longest_key (length k) b)))
    (λ text. alike_refused (KeyNotUtf8 (first_bad k)) ws ar)

value_content : (v : List ℕ) → content_from value_kind v 0 ≡ Content.bytes v
unfolding content_from pick
value_content v = refl

-- ---- the insert of a value

module _ (ws ar : List ℕ) (honest : Honest ws ar) (t : ℕ) (k v : List ℕ) where
  valid_alike : Alike (insert_at_key ws ar t k v) (told.insert_value (meaning ws ar) t k v)
  unfolding insert_at_key told.insert_value
  valid_alike =
      subst (λ (b : Bool). Alike (insert_at_key ws ar t k v)
      (pick b (told.keyed (meaning ws ar) k (put (meaning ws ar) t k (Content.bytes v) (length v) false)) (told.refused TableUnknown (meaning ws ar)))) (free_standing_same ws ar t)
      (alike_pick (free_standing ws t) _ _ _ _
      (λ b. keyed_alike ws ar k _ _ (λ text short.
      let free = free_standing_facts ws t b in
      subst (λ (c : Content). Alike (insert_below_path ws ar t k (stored value_kind v 0) false) (put (meaning ws ar) t k c (length v) false)) (value_content v)
      (walked_alike (table_of ws) ws ar t k 64 (sep_same ws t)
      (λ p. let z : ◌≡◌ {A = ℕ} 1 0 = sym p ∙ placed_word ws t ∙ free.1 in omega arith)
      text short (stored value_kind v 0) honest free.0
      (record { kind = refl; guest = λ (z : ◌≡◌ {A = ℕ} 118 72). absurd (omega arith) })
      (λ i l x y. let g = (honest.consistent.guests i l x).0 in let few = honest.consistent.tables in omega arith) false)))
      (λ b. alike_refused TableUnknown ws ar))

  pub value_alike : Alike (insert_value ws ar t k v) (told.insert_value (meaning ws ar) t k v)
  unfolding insert_value
  value_alike = subst (λ (o : Outcome Inserted). Alike o (told.insert_value (meaning ws ar) t k v)) (sym (pick_true _ _ (honest_valid ws ar honest))) valid_alike

-- ---- the count of items

count_by : (q : Bool) (a : ℕ) (l : List ℕ) (n : ℕ) → a ≡ length l → pick q (suc a) a ≡ length (pick q (l ++ (n ∷ [])) l)
unfolding pick
count_by true a l n e = ap suc e ∙ sym (length-append l (n ∷ []) ∙ add-one (length l))
count_by false a l n e = e

table_at : (ws ar : List ℕ) (n : ℕ) → n < item_total ws → (entry_at (items_of ws ar) n).table ≡ item_table ws n
unfolding entry_from item_of
table_at ws ar n h = ap (λ (e : Entry). e.table) (item_at_lem ws ar n h)

members_count : (ws ar : List ℕ) (t n : ℕ) → n ≤ item_total ws → tables.count_of ws t n ≡ length (members_below (items_of ws ar) t n)
unfolding tables.count_of members_below
members_count ws ar t zero h = refl
members_count ws ar t (suc n) h = by_test (eqb (item_table ws n) t) (table_at ws ar n (omega arith)) (members_count ws ar t n (omega arith))
  where
    by_test : (q : Bool) → (entry_at (items_of ws ar) n).table ≡ item_table ws n → tables.count_of ws t n ≡ length (members_below (items_of ws ar) t n)
        → pick (eqb (item_table ws n) t) (suc (tables.count_of ws t n)) (tables.count_of ws t n)
        ≡ length (pick (eqb (entry_at (items_of ws ar) n).table t) (members_below (items_of ws ar) t n ++ (n ∷ [])) (members_below (items_of ws ar) t n))
    by_test q e ih =
        count_by (eqb (item_table ws n) t) (tables.count_of ws t n) (members_below (items_of ws ar) t n) n ih
        ∙ ap (λ (x : ℕ). length (pick (eqb x t) (members_below (items_of ws ar) t n ++ (n ∷ [])) (members_below (items_of ws ar) t n))) (sym e)

pub count_alike : (ws ar : List ℕ) → Honest ws ar → (t : ℕ) → tables.item_count ws ar t ≡ told.item_count (meaning ws ar) t
unfolding tables.item_count told.item_count meaning
count_alike ws ar honest t =
    pick_true _ _ (honest_valid ws ar honest)
    ∙ ap (λ (n : ℕ). pick (ltb t n) (Ok (tables.count_of ws t (item_total ws))) (Err TableUnknown)) (sym (tables_count ws))
    ∙ ap (λ (n : ℕ). pick (ltb t (length (tables_of ws))) (Ok n) (Err TableUnknown))
    (members_count ws ar t (item_total ws) (omega arith) ∙ ap (λ (n : ℕ). length (members_below (items_of ws ar) t n)) (sym (items_count ws ar)))

-- ---- a new table

module _ (ws ar : List ℕ) (sep : ℕ) (honest : Honest ws ar) (few : table_total ws < most_tables) (domain : sep < 256 → sep ≤ 127) where
  abbrev w : List ℕ
  w = tabled ws ar sep honest few domain

  its_standing : standing_of w (table_total ws) ≡ record { separator = sep; placed = false }
  unfolding standing_of
  its_standing =
      let a : table_separator w (table_total ws) ≡ sep = mark ws ar sep honest few domain in
      let b : not (eqb (table_placed w (table_total ws)) 0) ≡ false = ap not (eq-eqb (table_placed w (table_total ws)) 0 (loose ws ar sep honest few domain)) in
      cc

  tables-added : tables_of w ≡ tables_of ws ++ (record { separator = sep; placed = false } ∷ [])
  tables-added =
      ap (listed (standing_of w)) (two ws ar sep honest few domain)
      ∙ listed_more (standing_of ws) (standing_of w) (table_total ws) (record { separator = sep; placed = false })
      (λ t l. standing_is w t ∙ ap standing_from (same_table ws ar sep honest few domain t l) ∙ sym (standing_is ws t)) its_standing

  items_stay : items_of w ar ≡ items_of ws ar
  items_stay =
      let w0 = kept_low ws ar sep honest few domain 0 (omega arith) (λ (e : 0 ≡ 2). omega arith) in
      let w1 = kept_low ws ar sep honest few domain 1 (omega arith) (λ (e : 1 ≡ 2). omega arith) in
      let w4 = kept_low ws ar sep honest few domain 4 (omega arith) (λ (e : 4 ≡ 2). omega arith) in
      let w2 : table_total w ≤ most_tables = omega (arith, two ws ar sep honest few domain) in
      let e3 = three ws ar sep honest few domain in
      let high = kept_high ws ar sep honest few domain in
      let n = size ws ar sep honest few domain in
      ap (listed (entry_of w ar)) e3
      ∙ listed_cong (entry_of w ar) (entry_of ws ar) (item_total ws)
      (λ i l. entry_is w ar i ∙ ap entry_from (low.low_item ws w ar honest.tidy n w0 w1 w2 e3 w4 high i) ∙ sym (entry_is ws ar i))

  pub meaning-added : meaning w ar ≡ builder (length ar) (room_used ws) ((meaning ws ar).tables ++ (record { separator = sep; placed = false } ∷ [])) (meaning ws ar).items
  unfolding meaning
  meaning-added = builder_same refl (kept_low ws ar sep honest few domain 4 (omega arith) (λ (e : 4 ≡ 2). omega arith)) tables-added items_stay

alike_not_added : (why : Refusal) (ws ar : List ℕ) → Alike (not_added why ws ar) (result (Err why) (meaning ws ar))
alike_not_added why ws ar = record { answer = refl; after = refl }

pub table_alike : (ws ar separator : List ℕ) → Honest ws ar → Alike (new_table ws ar separator) (told.new_table (meaning ws ar) separator)
unfolding new_table add_table told.new_table
table_alike ws ar separator honest =
    subst (λ (o : Outcome (Result ℕ Refusal)). Alike o (told.new_table (meaning ws ar) separator)) (sym (pick_true _ _ (honest_valid ws ar honest)))
    (alike_pick (eqb (separator_of separator) 0) _ _ _ _ (λ a. alike_not_added SeparatorOutside ws ar)
    (λ a. subst (λ (n : ℕ). Alike (add_table ws ar (separator_of separator))
    (pick (leb most_tables n) (result (Err TooManyTables) (meaning ws ar))
    (result (Ok n) (builder (meaning ws ar).room (meaning ws ar).used
    ((meaning ws ar).tables ++ (record { separator = separator_of separator; placed = false } ∷ [])) (meaning ws ar).items)))) (sym (meant_count ws ar))
    (alike_pick (leb most_tables (table_total ws)) _ _ _ _ (λ b. alike_not_added TooManyTables ws ar)
    (λ b. record {
      answer = refl;
      after =
          meaning-added ws ar (separator_of separator) honest (leb-false most_tables (table_total ws) b) (sep_domain separator)
          ∙ builder_same (sym (meant_sizes ws ar).1) (sym (meant_sizes ws ar).0) refl refl;
    }))))

-- ---- the fresh start is an empty builder

pub fresh_alike : (ws ar : List ℕ) → least_words ≤ length ws → meaning (fresh_words ws (length ar)) ar ≡ told.fresh (length ar)
unfolding meaning listed
fresh_alike ws ar long =
    let w = fresh_words ws (length ar) in
    builder_same refl (low.fresh-word ws ar long 4 (omega arith)) (ap (listed (standing_of w)) (low.fresh-two ws ar long)) (ap (listed (entry_of w ar)) (low.fresh-three ws ar long))
