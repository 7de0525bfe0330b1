-- The insert of a table is the model's: a table placed is one standing set, and what is settled is alike.
use Rattle.std.specs.Prelude.{Ok, Err, Some, None}
use Rattle.model.specs.Inserted.{Inserted}
use Prim.Native.Nat.{ℕ, suc, ◌+◌, ◌≤◌, ◌<◌, ◌-◌}
use native.Mathlib.Numerals.{add-one}
use native.Mathlib.Omega.{arith}
use native.Mathlib.Decide.{dec_lt}
use mathlib.Core.Path.{◌≡◌, refl, sym, ap, ◌∙◌, subst}
use mathlib.Core.Bool.{Bool, true, false, not}
use borrow.Author.Tests.{eqb-false, lt-ltb}
use lib.Dec.{eqb, ltb}
use Rattle.text.specs.Utf8.{is_utf8}
use Rattle.layout.specs.Limits.{longest_key, deepest, most_tables}
use Rattle.layout.specs.Kind.{value_kind, table_kind}
use Rattle.build_memory.specs.Memory.{word, table_at, table_total, item_total, table_separator, table_placed, Outcome}
use Rattle.build_memory.specs.Item.{Stored, stored}
use Rattle.build_tables.specs.Table.{free_standing}
use Rattle.build_tables.proofs.TableLaws.{free_standing_facts}
use Rattle.build_values.specs.Walk.{way_of}
use Rattle.build_values.specs.Insert.{refused, insert_below_path}
use Rattle.build_nested.specs.Nest.{held_height, place_table, when_accepted, settled, nested, nest_at_key, insert_table}
use mathlib.Core.List.{List, [], ◌∷◌, ◌++◌}
use lib.ListN.{length, set}
use Rattle.words.specs.Choice.{pick}
use Rattle.words.proofs.ChoiceLaws.{pick_true}
use Rattle.layout.specs.declared.refusal.Refusal.TheVariants.{TableUnknown, TableInItself, NotContainer, NestedTooDeep}
use Rattle.layout.specs.Item.{no_item}
use Rattle.model.specs.Table.{Content, Entry, entry_at, is_container}
use Rattle.model.specs.Walk.{Walked, walk, is_there, entry}
use Rattle.model.specs.Walk as seen
use Rattle.model.specs.Builder as told
use Rattle.model.specs.Builder.{Builder, Standing, standing_at, Reply, put, at_walked}
use Rattle.build_memory.specs.Meaning.{entry_of, standing_of, listed, meaning}
use Rattle.history.specs.Items.{Table, table_of}
use Rattle.history.specs.Tidy.{Tidy}
use Rattle.history.specs.Honest.{Honest}
use Rattle.history.proofs.TidySearch.{false-true}
use Rattle.history.proofs.TidyTables as low
use Rattle.history.proofs.PlacedTable as placed
use Rattle.history.proofs.GoodContainers.{lows_two}
use Rattle.history.proofs.GoodInsert.{accepted}
use Rattle.history.proofs.HonestCalls.{sep_same, placed_word}
use Rattle.history.proofs.HonestNesting as nest
use Rattle.history.proofs.History.{honest_valid}
use Rattle.history.proofs.Meaning.{content_from, entry_from, entry_is, items_of, tables_of, builder_same, listed-set, listed_cong}
use Rattle.history.proofs.ModelInsert.{Alike, alike_pick, alike_refused, meant_standing, walked_alike}
use Rattle.history.proofs.Height.{height_same}
use Rattle.history.proofs.ModelCalls.{free_standing_same, keyed_alike}

-- ---- a table placed

module _ (w a : List ℕ) (tidy : Tidy w a) (G h : ℕ) (known : G < table_total w) where
  abbrev done : List ℕ
  done = place_table w G h

  before : (p : ℕ) → p < table_at G + 1 → word done p ≡ word w p
  before = placed.before w G h

  side : (x f : ℕ) → f < 3 → (x ≡ G → ⊥) → word done (table_at x + f) ≡ word w (table_at x + f)
  side = placed.side w G h

  mark : table_placed done G ≡ 1
  mark = let s = tidy.valid-memory in placed.mark w G h (omega arith)

  abbrev standing : Standing
  standing = record { separator = table_separator w G; placed = true }

  other_standing : (x : ℕ) → (x ≡ G → ⊥) → standing_of done x ≡ standing_of w x
  unfolding standing_of
  other_standing x ne =
      let e = side x 0 (omega arith) ne in
      let f = side x 1 (omega arith) ne in
      cc

  its_standing : standing_of done G ≡ standing
  unfolding standing_of
  its_standing =
      let e = before (table_at G + 0) (omega arith) in
      let f : not (eqb (table_placed done G) 0) ≡ true = ap (λ (n : ℕ). not (eqb n 0)) mark in
      cc

  tables_placed : tables_of done ≡ set (tables_of w) G standing
  tables_placed =
      ap (listed (standing_of done)) (before 2 (omega arith))
      ∙ listed-set (standing_of w) (standing_of done) (table_total w) G standing known (λ x l ne. other_standing x ne) its_standing

  items_placed : items_of done a ≡ items_of w a
  unfolding place_table
  items_placed =
      let few = tidy.valid-memory.tables in
      let e2 = before 2 (omega arith) in
      let t2 : table_total done ≤ most_tables = omega arith in
      ap (listed (entry_of done a)) (before 3 (omega arith))
      ∙ listed_cong (entry_of done a) (entry_of w a) (item_total w)
      (λ i l. entry_is done a i
      ∙ ap entry_from (low.low_item w done a tidy (placed.size w G h) (before 0 (omega arith)) (before 1 (omega arith)) t2 (before 3 (omega arith)) (before 4 (omega arith))
      (λ p u. placed.behind w G h p (omega arith)) i)
      ∙ sym (entry_is w a i))

  standing_is_told : record { separator = (standing_at (meaning w a) G).separator; placed = true } ≡ standing
  unfolding standing_of
  standing_is_told = ap (λ (s : Standing). record { separator = s.separator; placed = true }) (meant_standing w a G known)

  pub meaning_placed : meaning done a ≡ told.place (meaning w a) G
  unfolding told.place meaning
  meaning_placed =
      builder_same refl (before 4 (omega arith)) (tables_placed ∙ ap (set (tables_of w) G) (sym standing_is_told)) items_placed

settled_by : (G h : ℕ) (o : Outcome Inserted) (r : Reply Inserted) → Alike o r
    → (accepted o.answer ≡ true → Tidy o.after.words o.after.arena × (G < table_total o.after.words)) → (x : Inserted) → o.answer ≡ x
    → meaning (when_accepted x (place_table o.after.words G h) o.after.words) o.after.arena ≡ told.when_accepted x (told.place r.after G) r.after
unfolding when_accepted told.when_accepted
settled_by G h o r same ok (Ok None) e =
    let z = ok (ap accepted e) in
    meaning_placed o.after.words o.after.arena z.0 G h z.1 ∙ ap (λ (m : Builder). told.place m G) same.after
settled_by G h o r same ok (Ok (Some kind)) e =
    let z = ok (ap accepted e) in
    meaning_placed o.after.words o.after.arena z.0 G h z.1 ∙ ap (λ (m : Builder). told.place m G) same.after
settled_by G h o r same ok (Err why) e = same.after

pub settled_alike : (G h : ℕ) (o : Outcome Inserted) (r : Reply Inserted) → Alike o r
    → (accepted o.answer ≡ true → Tidy o.after.words o.after.arena × (G < table_total o.after.words)) → Alike (settled G h o) (told.settled G r)
unfolding settled told.settled
settled_alike G h o r same ok =
    record {
      answer = same.answer;
      after = by_answer o.answer refl ∙ ap (λ (x : Inserted). told.when_accepted x (told.place r.after G) r.after) same.answer;
    }
  where
    by_answer : (x : Inserted) → o.answer ≡ x
        → meaning (when_accepted o.answer (place_table o.after.words G h) o.after.words) o.after.arena ≡ told.when_accepted o.answer (told.place r.after G) r.after
    by_answer x e =
        ap (λ (y : Inserted). meaning (when_accepted y (place_table o.after.words G h) o.after.words) o.after.arena) e
        ∙ settled_by G h o r same ok x e ∙ ap (λ (y : Inserted). told.when_accepted y (told.place r.after G) r.after) (sym e)

-- ---- a guest that is too high: what would be put has no bearing

deep_by : (m : Builder) (t : ℕ) (key : List ℕ) (size : ℕ) (p q : Bool) (x y x' y' : Walked) → at_walked x true m t key size ≡ at_walked x' true m t key size
    → at_walked y true m t key size ≡ at_walked y' true m t key size
    → at_walked (pick p (pick q x Walked.blocked) y) true m t key size ≡ at_walked (pick p (pick q x' Walked.blocked) y') true m t key size
unfolding pick
deep_by m t key size true true x y x' y' e f = e
deep_by m t key size true false x y x' y' e f = refl
deep_by m t key size false q x y x' y' e f = f

deep_same : (m : Builder) (t : ℕ) (key : List ℕ) (size : ℕ) (c c' : Content) (l : List (List ℕ)) (items : List Entry) (above : ℕ)
    → at_walked (walk t c l items above) true m t key size ≡ at_walked (walk t c' l items above) true m t key size
unfolding walk at_walked pick
deep_same m t key size c c' [] items above = refl
deep_same m t key size c c' (p ∷ []) items above = refl
deep_same m t key size c c' (p ∷ n ∷ rest) items above =
    deep_by m t key size (is_there items t p) (is_container (entry_at items (seen.find_key items t p)).content)
    (walk t c (n ∷ rest) items (seen.find_key items t p)) (walk t c (n ∷ rest) (items ++ (entry t p Content.container above ∷ [])) (length items))
    (walk t c' (n ∷ rest) items (seen.find_key items t p)) (walk t c' (n ∷ rest) (items ++ (entry t p Content.container above ∷ [])) (length items))
    (deep_same m t key size c c' (n ∷ rest) items (seen.find_key items t p))
    (deep_same m t key size c c' (n ∷ rest) (items ++ (entry t p Content.container above ∷ [])) (length items))

put_deep : (m : Builder) (t : ℕ) (key : List ℕ) (size : ℕ) (c c' : Content) → put m t key c size true ≡ put m t key c' size true
unfolding put
put_deep m t key size c c' = deep_same m t key size c c' _ m.items no_item

walked_deep : (ws ar : List ℕ) (t : ℕ) (k : List ℕ) (c c' : Stored) → insert_below_path ws ar t k c true ≡ insert_below_path ws ar t k c' true
unfolding insert_below_path pick
walked_deep ws ar t k c c' = refl

table_content : (G : ℕ) → content_from table_kind [] G ≡ Content.nested G
unfolding content_from pick
table_content G = refl

not_taken : (ws ar : List ℕ) (p q : Bool) → q ≡ true → (x : Outcome Inserted)
    → accepted (pick p (pick q (refused NestedTooDeep ws ar) x) (refused NotContainer ws ar)).answer ≡ true → ⊥
unfolding pick
not_taken ws ar true true e x a = false-true a
not_taken ws ar true false e x a = false-true e
not_taken ws ar false q e x a = false-true a

-- ---- the insert of a table

module _ (ws ar : List ℕ) (honest : Honest ws ar) (t : ℕ) (k : List ℕ) (G : ℕ) (known : t < table_total ws) (free : table_placed ws t ≡ 0)
    (guest_known : G < table_total ws) (guest-free : table_placed ws G ≡ 0) (two : t ≡ G → ⊥)
    (text : is_utf8 k ≡ true) (short : length k ≤ longest_key) where
  abbrev c : Stored
  c = stored table_kind [] G

  abbrev high : ℕ
  high = held_height ws G + 1

  abbrev m : Builder
  m = meaning ws ar

  abbrev g' : ℕ → Table
  g' = nest.g' ws ar honest t k G known free guest_known guest-free two text short

  g_its : g' G ≡ record { sep = table_separator ws G; placed = 1; height = high }
  g_its = nest.g_its ws ar honest t k G known free guest_known guest-free two text short

  shallow_alike : held_height ws G < deepest - 1 → Alike (insert_below_path ws ar t k c (ltb deepest (high + 1))) (put m t k (Content.nested G) 0 (ltb deepest (high + 1)))
  shallow_alike low =
      subst (λ (x : Content). Alike (insert_below_path ws ar t k c (ltb deepest (high + 1))) (put m t k x 0 (ltb deepest (high + 1)))) (table_content G)
      (walked_alike g' ws ar t k G (nest.g_sep ws ar honest t k G known free guest_known guest-free two text short t ∙ sep_same ws t)
      (λ p. let z : ◌≡◌ {A = ℕ} 1 0 = sym p ∙ ap (λ (y : Table). y.placed) (nest.g_other ws ar honest t k G known free guest_known guest-free two text short t two) ∙ placed_word ws t ∙ free in omega arith)
      text short c (nest.good ws ar honest t k G known free guest_known guest-free two text short low) known
      (record { kind = refl; guest = λ z. (refl, guest_known, ap (λ (y : Table). y.placed) g_its, (let e = ap (λ (y : Table). y.height) g_its in omega arith)) })
      (nest.alone ws ar honest t k G known free guest_known guest-free two text short) (ltb deepest (high + 1)))

  deep_alike : Alike (insert_below_path ws ar t k c true) (put m t k (Content.nested G) 0 true)
  deep_alike =
      subst (Alike (insert_below_path ws ar t k c true)) (put_deep m t k 0 (content_from value_kind [] 0) (Content.nested G))
      (subst (λ (o : Outcome Inserted). Alike o (put m t k (content_from value_kind [] 0) 0 true)) (walked_deep ws ar t k (stored value_kind [] 0) c)
      (walked_alike (table_of ws) ws ar t k 64 (sep_same ws t)
      (λ p. let z : ◌≡◌ {A = ℕ} 1 0 = sym p ∙ placed_word ws t ∙ free in omega arith)
      text short (stored value_kind [] 0) honest known
      (record { kind = refl; guest = λ (z : ◌≡◌ {A = ℕ} 118 72). absurd (omega arith) })
      (λ i l x y. let g = (honest.consistent.guests i l x).0 in let few = honest.consistent.tables in omega arith) true))

  deep_refused : (q : Bool) → q ≡ true → accepted (insert_below_path ws ar t k c q).answer ≡ true → ⊥
  unfolding insert_below_path
  deep_refused q e a = no_by (way_of ws ar t k).clear q e _ a
    where
      no_by : (p q : Bool) → q ≡ true → (x : Outcome Inserted) → accepted (pick p (pick q (refused NestedTooDeep ws ar) x) (refused NotContainer ws ar)).answer ≡ true → ⊥
      no_by p q e x a = not_taken ws ar p q e x a

  height-told : ltb deepest (suc (told.height m G)) ≡ ltb deepest (high + 1)
  height-told = ap (ltb deepest) (ap suc (height_same ws ar honest G guest_known (placed_word ws G ∙ guest-free)) ∙ sym (add-one high))

  pub nested_alike : Alike (nested ws ar t k G) (told.settled G (put m t k (Content.nested G) 0 (ltb deepest (suc (told.height m G)))))
  unfolding nested
  nested_alike =
      subst (λ (b : Bool). Alike (nested ws ar t k G) (told.settled G (put m t k (Content.nested G) 0 b))) (sym height-told) (by_height (dec_lt (held_height ws G) 7))
    where
      by_height : Dec (held_height ws G < deepest - 1)
          → Alike (settled G high (insert_below_path ws ar t k c (ltb deepest (high + 1)))) (told.settled G (put m t k (Content.nested G) 0 (ltb deepest (high + 1))))
      by_height (yes low) =
          let after = nest.after ws ar honest t k G known free guest_known guest-free two text short low in
          settled_alike G high _ _ (shallow_alike low)
          (λ a. ((after.good a).tidy, (let e = lows_two ws (insert_below_path ws ar t k c (ltb deepest (high + 1))).after.words after.lows in omega arith)))
      by_height (no l) =
          let e : ltb deepest (high + 1) ≡ true = lt-ltb deepest (high + 1) (omega arith) in
          settled_alike G high _ _
          (subst (λ (b : Bool). Alike (insert_below_path ws ar t k c b) (put m t k (Content.nested G) 0 b)) (sym e) deep_alike)
          (λ a. absurd (deep_refused (ltb deepest (high + 1)) e a))

pub nest_alike : (ws ar : List ℕ) → Honest ws ar → (t : ℕ) (k : List ℕ) (G : ℕ)
    → Alike (insert_table ws ar t k G) (told.insert_table (meaning ws ar) t k G)
unfolding insert_table nest_at_key told.insert_table
nest_alike ws ar honest t k G =
    subst (λ (o : Outcome Inserted). Alike o (told.insert_table (meaning ws ar) t k G)) (sym (pick_true _ _ (honest_valid ws ar honest)))
    (subst (λ (b : Bool). Alike (nest_at_key ws ar t k G) (pick b (rest (told.free_standing (meaning ws ar) G)) (told.refused TableUnknown (meaning ws ar)))) (free_standing_same ws ar t)
    (subst (λ (b : Bool). Alike (nest_at_key ws ar t k G) (pick (free_standing ws t) (rest b) (told.refused TableUnknown (meaning ws ar)))) (free_standing_same ws ar G)
    (alike_pick (free_standing ws t) _ _ _ _ (λ a.
    alike_pick (free_standing ws G) _ _ _ _ (λ b.
    alike_pick (eqb t G) _ _ _ _ (λ d. alike_refused TableInItself ws ar)
    (λ d. keyed_alike ws ar k _ _ (λ text short.
    let r = free_standing_facts ws t a in
    let s = free_standing_facts ws G b in
    nested_alike ws ar honest t k G r.0 r.1 s.0 s.1 (eqb-false t G d) text short)))
    (λ b. alike_refused TableUnknown ws ar))
    (λ a. alike_refused TableUnknown ws ar))))
  where
    rest : Bool → Reply Inserted
    rest b =
        pick b (pick (eqb t G) (told.refused TableInItself (meaning ws ar))
        (told.keyed (meaning ws ar) k (told.settled G (put (meaning ws ar) t k (Content.nested G) 0 (ltb deepest (suc (told.height (meaning ws ar) G)))))))
        (told.refused TableUnknown (meaning ws ar))
