-- An insert past its key's tests: what it answers and leaves is what the model's put does.
use Rattle.layout.specs.declared.kind.Kind.{Kind}
use Rattle.std.specs.Prelude.{Ok, Some, None, Result}
use Rattle.model.specs.Inserted.{Inserted}
use Prim.Native.Nat.{ℕ, ◌+◌, ◌-◌, ◌≤◌, ◌<◌}
use native.Mathlib.Omega.{arith}
use native.Mathlib.Decide.{dec_lt}
use mathlib.Core.Path.{◌≡◌, refl, sym, ap, ◌∙◌, subst}
use mathlib.Core.Bool.{Bool, true, false}
use borrow.Author.Tests.{ltb-true, ltb-false, le-ltb, lt-ltb}
use lib.Dec.{ltb}
use Rattle.words.specs.Store.{part}
use Rattle.text.specs.Utf8.{is_utf8}
use Rattle.key_order.specs.Prefix.{ends_past, next_end}
use Rattle.layout.specs.declared.refusal.Refusal.{Refusal}
use Rattle.layout.specs.Limits.{longest_key, most_items}
use Rattle.build_memory.specs.Memory.{table_total, item_total, room_used, table_separator, item_table, item_parent, item_kind, value_start, value_size, item_guest, key_of, memory, Outcome, outcome}
use Rattle.build_memory.specs.Find.{find_key}
use Rattle.build_memory.specs.Item.{Stored, kind_of, replace_item}
use Rattle.build_values.specs.declared.walk.Way.{Way}
use Rattle.build_values.specs.Walk.{descend, way_of, sum}
use Rattle.build_values.specs.Insert.{containers, refused, added, insert_new, overwrite, insert_or_replace, insert_below_path}
use mathlib.Core.List.{List, [], ◌∷◌, ◌++◌}
use lib.ListN.{length, take, get_or, set, length-set, length-append, drop_of_length-le}
use lib.Seq.{drop-append_seam}
use Rattle.words.specs.Choice.{pick}
use Rattle.words.proofs.ChoiceLaws.{pick_true, pick-false}
use Rattle.key_order.specs.Prefix.{prefixes}
use Rattle.key_order.proofs.PrefixLaws.{next_within, next_rises}
use Rattle.layout.specs.declared.refusal.Refusal.TheVariants.{TooManyItems, ArenaFull, NotContainer, NestedTooDeep}
use Rattle.layout.specs.Item.{no_item}
use Rattle.model.specs.Table.{Content, Entry, entry_at}
use Rattle.model.specs.Table as model
use Rattle.model.specs.Walk as seen
use Rattle.model.specs.Walk.{is_there, entry, put_key, Walked, walk, key_room}
use Rattle.model.specs.Builder as told
use Rattle.model.specs.Builder.{Builder, Standing, no_standing, standing_at, Reply, result, with_items, news, used_after, counted, at_walked, put}
use Rattle.build_memory.specs.Meaning.{standing_of, meaning}
use Rattle.history.specs.Items.{item, item_of, Table}
use Rattle.history.specs.Honest.{Good}
use Rattle.history.proofs.TidySearch.{find_within}
use Rattle.history.proofs.WayDown.{end_sep, Missing, OnWay, way_consistent, item_found, item_missing}
use Rattle.history.proofs.GoodContainers.{At, Fit, grown}
use Rattle.history.proofs.GoodInsert.{gone_all}
use Rattle.build_memory.proofs.MeaningLaws.{listed_at}
use Rattle.history.proofs.Meaning.{content_from, above_of, entry_from, items_of, tables_of, builder_same, tables_same, items_count, item_at_lem, meaning_made, meaning_replaced}
use Rattle.history.proofs.ModelSearch.{find_same, there_same}
use Rattle.history.proofs.ModelWalk as way
use Rattle.history.proofs.ModelSteps.{kind_content, extended_entries, Down, way_down}

-- the answer of an insert that replaced an item
abbrev told_kind : Kind → Inserted
told_kind kind = Ok (Some kind)

-- what a call leaves is what the model's leaves
pub record Alike {A : Type 0} (o : Outcome A) (r : Reply A) : Type 0 where
  pub answer : o.answer ≡ r.answer
  pub after : meaning o.after.words o.after.arena ≡ r.after

pub alike_pick : {A : Type 0} (b : Bool) (o o' : Outcome A) (r r' : Reply A) → (b ≡ true → Alike o r) → (b ≡ false → Alike o' r') → Alike (pick b o o') (pick b r r')
unfolding pick
alike_pick true o o' r r' f g = f refl
alike_pick false o o' r r' f g = g refl

pub alike_refused : (why : Refusal) (ws ar : List ℕ) → Alike (refused why ws ar) (told.refused why (meaning ws ar))
alike_refused why ws ar = record { answer = refl; after = refl }

meant-items : (ws ar : List ℕ) → (meaning ws ar).items ≡ items_of ws ar
unfolding meaning
meant-items ws ar = refl

pub meant_sizes : (ws ar : List ℕ) → ((meaning ws ar).used ≡ room_used ws) × ((meaning ws ar).room ≡ length ar)
unfolding meaning
meant_sizes ws ar = (refl, refl)

pub meant_standing : (ws ar : List ℕ) (t : ℕ) → t < table_total ws → standing_at (meaning ws ar) t ≡ standing_of ws t
unfolding meaning standing_at
meant_standing ws ar t h = listed_at (standing_of ws) no_standing (table_total ws) t h

standing_separator : (ws : List ℕ) (t : ℕ) → (standing_of ws t).separator ≡ table_separator ws t
unfolding standing_of
standing_separator ws t = refl

meant-tables : (ws ar : List ℕ) → (meaning ws ar).tables ≡ tables_of ws
unfolding meaning
meant-tables ws ar = refl

its_entry : (t : ℕ) (k : List ℕ) (parent : ℕ) (c : Stored)
    → entry_from (item t k parent c.kind c.value c.guest) ≡ entry t k (content_from c.kind c.value c.guest) (above_of parent)
unfolding entry_from
its_entry t k parent c = refl

-- the counts, where the items after are so many and need so much
counted_is : (m : Builder) (t : ℕ) (key : List ℕ) (size : ℕ) (after : List Entry) (n u : ℕ) → length after ≡ n → used_after m after size ≡ u
    → counted m t key size after ≡ pick (ltb most_items n) (told.refused TooManyItems m) (pick (ltb m.room u) (told.refused ArenaFull m) (result (news m.items t key) (with_items m after u)))
unfolding counted
counted_is m t key size after n u a b =
    ap (λ (x : ℕ). pick (ltb most_items x) (told.refused TooManyItems m) (pick (ltb m.room (used_after m after size)) (told.refused ArenaFull m) (result (news m.items t key) (with_items m after (used_after m after size))))) a
    ∙ ap (λ (x : ℕ). pick (ltb most_items n) (told.refused TooManyItems m) (pick (ltb m.room x) (told.refused ArenaFull m) (result (news m.items t key) (with_items m after x)))) b

held_kind : (ws ar : List ℕ) (i : ℕ) → model.kind_of (entry_from (item_of ws ar i)).content ≡ kind_of (item_kind ws i)
unfolding entry_from item_of
held_kind ws ar i = kind_content (item_kind ws i) (part ar (value_start ws i) (value_size ws i)) (item_guest ws i)

blocked_alike : (ws ar : List ℕ) (deep : Bool) (t : ℕ) (k : List ℕ) (size : ℕ) → Alike (refused NotContainer ws ar) (at_walked Walked.blocked deep (meaning ws ar) t k size)
unfolding at_walked
blocked_alike ws ar deep t k size = alike_refused NotContainer ws ar

module _ (g : ℕ → Table) (ws ar : List ℕ) (t : ℕ) (k : List ℕ) (G : ℕ) (sep-is : (g t).sep ≡ table_separator ws t) (loose : (g t).placed ≡ 1 → ⊥) (text : is_utf8 k ≡ true)
    (short : length k ≤ longest_key) (c : Stored) (good : Good g ws ar) (known : t < table_total ws)
    (fit : Fit g t k (table_separator ws t) G sep-is loose text short (table_total ws) c)
    (free : (i : ℕ) → i < item_total ws → (item_of ws ar i).kind ≡ 72 → (item_of ws ar i).guest ≡ G → ⊥) where
  abbrev sep : ℕ
  sep = table_separator ws t

  abbrev m : Builder
  m = meaning ws ar

  abbrev items : List Entry
  items = items_of ws ar

  abbrev C : Content
  C = content_from c.kind c.value c.guest

  abbrev size : ℕ
  size = length c.value

  abbrev Here : ℕ → ℕ → Type 0
  Here parent from = At g t k sep G sep-is loose text short ws ar parent from

  -- ---- a key that is missing
  module _ (w : Way) (on : OnWay (item_total ws) (item_of ws ar) t sep k w) (clear : w.clear ≡ true) (none : item_total ws ≤ find_key ws ar t k) where
    abbrev ends : List ℕ
    ends = ends_past sep k w.from

    abbrev parent : ℕ
    parent = w.parent

    gone : (e : ℕ) → next_end sep k w.from ≤ e → e ≤ length k → Missing (item_total ws) (item_of ws ar) t (take e k)
    gone = gone_all g ws ar t k G sep-is loose text short c good known fit free w on clear (item_missing ws ar good.tidy t k none)

    at : Here parent w.from
    at = record { good = good; known = known; chain = on.chain; above = on.above; proper = on.proper; gone = gone; free = free }

    nowhere : (key : List ℕ) → Missing (item_total ws) (item_of ws ar) t key → seen.find_key items t key ≡ length items
    nowhere key miss = sym (find_same g ws ar good t key) ∙ by_field (dec_lt (find_key ws ar t key) (item_total ws)) ∙ sym (items_count ws ar)
      where
        by_field : Dec (find_key ws ar t key < item_total ws) → find_key ws ar t key ≡ item_total ws
        by_field (yes l) = let r = item_found ws ar good.tidy t key (find_key ws ar t key) refl l in absurd (miss (find_key ws ar t key) l r.0 r.1)
        by_field (no l) = let b = find_within ws ar good.tidy t key in omega arith

    abbrev new : List Entry
    new = way.new_entries t k C ends (length items) (above_of parent)

    walk_is : walk t C (way.along sep k w.from) items (above_of parent) ≡ Walked.walked (items ++ new)
    walk_is = way.walk_new sep k t C w.from on.above.within items (above_of parent) (record { none = λ e l u. nowhere (take e k) (gone e l u) })

    many : length (items ++ new) ≡ item_total ws + length ends
    many = length-append items new ∙ ap (λ (n : ℕ). n + length new) (items_count ws ar) ∙ ap (λ (n : ℕ). item_total ws + n) (way.new_length t k C ends (length items) (above_of parent))

    cost : used_after m (items ++ new) size ≡ room_used ws + sum ends + size
    unfolding used_after meaning
    cost =
        ap (λ (l : List Entry). room_used ws + key_room l + size) (drop-append_seam items new)
        ∙ ap (λ (n : ℕ). room_used ws + n + size) (way.new_room sep k t C w.from on.above.within (length items) (above_of parent))

    news_new : news m.items t k ≡ Ok None
    unfolding news
    news_new =
        ap (λ (l : List Entry). news l t k) (meant-items ws ar)
        ∙ pick-false _ _ (there_same g ws ar good t k ∙ le-ltb (find_key ws ar t k) (item_total ws) none)

    added_is : item_total ws + length ends ≤ most_items → room_used ws + sum ends + size ≤ length ar
        → meaning (added (containers t k ends (memory ws ar) parent) t k c).words (added (containers t k ends (memory ws ar) parent) t k c).arena
        ≡ with_items m (items ++ new) (room_used ws + sum ends + size)
    unfolding added
    added_is few room =
        let l = containers t k ends (memory ws ar) parent in
        let gr = grown g t k sep G sep-is loose text short ws ar parent w.from at few (omega arith) in
        let count = gr.count in
        let used = gr.used in
        let long = gr.arena in
        let v = l.after.words in
        let a = l.after.arena in
        let tidy = gr.at.good.tidy in
        let few' : item_total v < most_items = omega arith in
        let room' : room_used v + length k + size ≤ length a = omega arith in
        meaning_made v a t l.parent k c tidy few' room'
        ∙ builder_same (gr.arena ∙ sym (meant_sizes ws ar).1) (let z : room_used v + length k + size ≡ room_used ws + sum ends + size = omega arith in z)
        (meant-tables v a ∙ tables_same ws v gr.lows good.consistent.tables ∙ sym (meant-tables ws ar))
        (ap (λ (x : List Entry). x ++ (entry_from (item t k l.parent c.kind c.value c.guest) ∷ [])) (meant-items v a)
        ∙ ap (λ (x : Entry). items_of v a ++ (x ∷ [])) (its_entry t k l.parent c)
        ∙ extended_entries g t k sep G sep-is loose text short C ws ar parent w.from at few (omega arith)
        ∙ ap (λ (n : ℕ). items ++ way.new_entries t k C ends n (above_of parent)) (sym (items_count ws ar)))

    pub new_alike : Alike (insert_new ws ar t k c w.from parent) (counted m t k size (items ++ new))
    unfolding insert_new
    new_alike =
        subst (Alike (insert_new ws ar t k c w.from parent)) (sym (counted_is m t k size (items ++ new) (item_total ws + length ends) (room_used ws + sum ends + size) many cost))
        (alike_pick (ltb most_items (item_total ws + length ends)) _ _ _ _ (λ b. alike_refused TooManyItems ws ar)
        (λ b. subst (λ (r : ℕ). Alike (pick (ltb (length ar) (room_used ws + sum ends + size)) (refused ArenaFull ws ar) (outcome (Ok None) (added (containers t k ends (memory ws ar) parent) t k c)))
        (pick (ltb r (room_used ws + sum ends + size)) (told.refused ArenaFull m) (result (news m.items t k) (with_items m (items ++ new) (room_used ws + sum ends + size))))) (sym (meant_sizes ws ar).1)
        (alike_pick (ltb (length ar) (room_used ws + sum ends + size)) _ _ _ _ (λ d. alike_refused ArenaFull ws ar)
        (λ d. record { answer = sym news_new; after = added_is (ltb-false most_items (item_total ws + length ends) b) (ltb-false (length ar) (room_used ws + sum ends + size) d) }))))

  -- ---- a key that is there
  module _ (w : Way) (on : OnWay (item_total ws) (item_of ws ar) t sep k w) (clear : w.clear ≡ true) (i : ℕ) (is : i ≡ find_key ws ar t k) (there : i < item_total ws) where
    spot : ((item_of ws ar i).table ≡ t) × ((item_of ws ar i).key ≡ k)
    spot = item_found ws ar good.tidy t k i is there

    -- every container of the key is there, so the way ends before the key itself
    at_end : length k ≤ next_end sep k w.from
    at_end = by_end (dec_lt (next_end sep k w.from) (length k))
      where
        by_end : Dec (next_end sep k w.from < length k) → length k ≤ next_end sep k w.from
        by_end (yes u) =
            let e = next_end sep k w.from in
            let h = on.above.within in
            let up : w.from < e = next_rises sep k w.from h (omega (arith, (next_within sep k w.from h).0)) in
            let long : length (item_of ws ar i).key ≡ length k = ap length spot.1 in
            let at-sep : get_or (item_of ws ar i).key (e - 1) 0 ≡ (g (item_of ws ar i).table).sep =
            ap (λ (x : List ℕ). get_or x (e - 1) 0) spot.1 ∙ end_sep sep k w.from e h refl up u ∙ sym sep-is ∙ ap (λ (x : ℕ). (g x).sep) (sym spot.0) in
            let found = good.consistent.closed i there e (omega arith) (omega arith) at-sep in
            absurd (on.next clear u found.index found.below (found.of_table ∙ spot.0) (found.has_key ∙ ap (take e) spot.1))
        by_end (no u) = omega arith

    abbrev changed : Entry
    changed = entry_from (item (item_table ws i) (key_of ws ar i) (item_parent ws i) c.kind c.value c.guest)

    find_is : seen.find_key items t k ≡ i
    find_is = sym (find_same g ws ar good t k) ∙ sym is

    is_there_lem : is_there items t k ≡ true
    is_there_lem = there_same g ws ar good t k ∙ lt-ltb (find_key ws ar t k) (item_total ws) (omega arith)

    changed_is : entry t k C (entry_at items i).above ≡ changed
    unfolding entry_from item_of
    changed_is =
        let a : (entry_at items i).above ≡ above_of (item_parent ws i) = ap (λ (e : Entry). e.above) (item_at_lem ws ar i there) in
        let b : item_table ws i ≡ t = spot.0 in
        let d : key_of ws ar i ≡ k = spot.1 in
        ap (λ (x : ℕ). entry t k C x) a ∙ ap (λ (x : ℕ). entry x k C (above_of (item_parent ws i))) (sym b)
        ∙ ap (λ (x : List ℕ). entry (item_table ws i) x C (above_of (item_parent ws i))) (sym d)

    put_is : (above : ℕ) → put_key items t k C above ≡ set items i changed
    unfolding put_key
    put_is above =
        pick_true _ _ is_there_lem
        ∙ ap (λ (n : ℕ). set items n (entry t k C (entry_at items n).above)) find_is
        ∙ ap (set items i) changed_is

    walk_is_old : walk t C (way.along sep k w.from) items (above_of w.parent) ≡ Walked.walked (set items i changed)
    walk_is_old = way.walk-last sep k w.from on.above.within t C items (above_of w.parent) at_end ∙ ap Walked.walked (put_is (above_of w.parent))

    many_old : length (set items i changed) ≡ item_total ws
    many_old = length-set items i changed ∙ items_count ws ar

    cost_old : used_after m (set items i changed) size ≡ room_used ws + size
    unfolding used_after meaning key_room
    cost_old =
        let e : length (set items i changed) ≤ length items = (let z : length (set items i changed) ≡ length items = length-set items i changed in omega arith) in
        ap (λ (l : List Entry). room_used ws + key_room l + size) (drop_of_length-le (set items i changed) e)
        ∙ (let z : room_used ws + 0 + size ≡ room_used ws + size = omega arith in z)

    news_old : news m.items t k ≡ Ok (Some (kind_of (item_kind ws i)))
    unfolding news
    news_old =
        ap (λ (l : List Entry). news l t k) (meant-items ws ar)
        ∙ pick_true _ _ is_there_lem
        ∙ ap (λ (n : ℕ). told_kind (model.kind_of (entry_at items n).content)) find_is
        ∙ ap (λ (e : Entry). told_kind (model.kind_of e.content)) (item_at_lem ws ar i there)
        ∙ ap told_kind (held_kind ws ar i)

    written_is : room_used ws + size ≤ length ar
        → meaning (replace_item (memory ws ar) i c).words (replace_item (memory ws ar) i c).arena ≡ with_items m (set items i changed) (room_used ws + size)
    written_is room =
        meaning_replaced ws ar i c good.tidy there room
        ∙ builder_same (sym (meant_sizes ws ar).1) refl refl (ap (λ (l : List Entry). set l i changed) (meant-items ws ar))

    pub old_alike : Alike (overwrite ws ar i c) (counted m t k size (set items i changed))
    unfolding overwrite
    old_alike =
        subst (Alike (overwrite ws ar i c))
        (sym (counted_is m t k size (set items i changed) (item_total ws) (room_used ws + size) many_old cost_old
        ∙ pick-false _ _ (le-ltb most_items (item_total ws) good.consistent.count)
        ∙ ap (λ (r : ℕ). pick (ltb r (room_used ws + size)) (told.refused ArenaFull m) (result (news m.items t k) (with_items m (set items i changed) (room_used ws + size)))) (meant_sizes ws ar).1))
        (alike_pick (ltb (length ar) (room_used ws + size)) _ _ _ _ (λ d. alike_refused ArenaFull ws ar)
        (λ d. record { answer = sym news_old; after = written_is (ltb-false (length ar) (room_used ws + size) d) }))

  -- ---- both, past 21 and 26
  abbrev Along : Way → Walked → Type 0
  Along w x = (deep : Bool) → Alike (pick deep (refused NestedTooDeep ws ar) (insert_or_replace ws ar t k c w.from w.parent)) (at_walked x deep m t k size)

  along_alike : (w : Way) → OnWay (item_total ws) (item_of ws ar) t sep k w → w.clear ≡ true → Along w (walk t C (way.along sep k w.from) items (above_of w.parent))
  unfolding insert_or_replace at_walked
  along_alike w on clear = by_find (ltb (find_key ws ar t k) (item_total ws)) refl
    where
      by_find : (q : Bool) → ltb (find_key ws ar t k) (item_total ws) ≡ q → Along w (walk t C (way.along sep k w.from) items (above_of w.parent))
      by_find true q =
          let l = ltb-true (find_key ws ar t k) (item_total ws) q in
          subst (Along w) (sym (walk_is_old w on clear (find_key ws ar t k) refl l))
          (λ deep. alike_pick deep _ _ _ _ (λ d. alike_refused NestedTooDeep ws ar)
          (λ d. subst (λ (o : Outcome Inserted). Alike o (counted m t k size (set items (find_key ws ar t k) (changed w on clear (find_key ws ar t k) refl l)))) (sym (pick_true _ _ q))
          (old_alike w on clear (find_key ws ar t k) refl l)))
      by_find false q =
          let l = ltb-false (find_key ws ar t k) (item_total ws) q in
          subst (Along w) (sym (walk_is w on clear l))
          (λ deep. alike_pick deep _ _ _ _ (λ d. alike_refused NestedTooDeep ws ar)
          (λ d. subst (λ (o : Outcome Inserted). Alike o (counted m t k size (items ++ new w on clear l))) (sym (pick-false _ _ q)) (new_alike w on clear l)))

  start_is : walk t C (prefixes (standing_at m t).separator k) m.items no_item ≡ walk t C (way.along sep k 0) items (above_of 0)
  unfolding above_of pick
  start_is =
      ap (λ (s : ℕ). walk t C (prefixes s k) m.items no_item) (ap (λ (s : Standing). s.separator) (meant_standing ws ar t known) ∙ standing_separator ws t)
      ∙ ap (λ (l : List (List ℕ)). walk t C l m.items no_item) (way.prefixes_is sep k)
      ∙ ap (λ (l : List Entry). walk t C (way.along sep k 0) l no_item) (meant-items ws ar)

  pub walked_alike : (deep : Bool) → Alike (insert_below_path ws ar t k c deep) (put m t k C size deep)
  unfolding insert_below_path put way_of
  walked_alike deep =
      subst (λ (x : Walked). Alike (insert_below_path ws ar t k c deep) (at_walked x deep m t k size)) (sym start_is)
      (by_clear (descend ws ar t k (ends_past sep k 0) 0 0) (way_consistent ws ar good.tidy t sep k) (way_down g ws ar good t sep k C)
      (descend ws ar t k (ends_past sep k 0) 0 0).clear refl)
    where
      by_clear : (w : Way) → OnWay (item_total ws) (item_of ws ar) t sep k w → Down g ws ar good t sep k C 0 0 w → (q : Bool) → w.clear ≡ q
          → Alike (pick w.clear (pick deep (refused NestedTooDeep ws ar) (insert_or_replace ws ar t k c w.from w.parent)) (refused NotContainer ws ar))
          (at_walked (walk t C (way.along sep k 0) items (above_of 0)) deep m t k size)
      by_clear w on down true e =
          subst (λ (x : Walked). Alike (pick w.clear (pick deep (refused NestedTooDeep ws ar) (insert_or_replace ws ar t k c w.from w.parent)) (refused NotContainer ws ar)) (at_walked x deep m t k size)) (sym (down.clear e))
          (subst (λ (o : Outcome Inserted). Alike o (at_walked (walk t C (way.along sep k w.from) items (above_of w.parent)) deep m t k size)) (sym (pick_true _ _ e)) (along_alike w on e deep))
      by_clear w on down false e =
          subst (λ (x : Walked). Alike (pick w.clear (pick deep (refused NestedTooDeep ws ar) (insert_or_replace ws ar t k c w.from w.parent)) (refused NotContainer ws ar)) (at_walked x deep m t k size)) (sym (down.shut e))
          (subst (λ (o : Outcome Inserted). Alike o (at_walked Walked.blocked deep m t k size)) (sym (pick-false _ _ e)) (blocked_alike ws ar deep t k size))
