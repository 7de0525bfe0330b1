-- A laid table is sound, index by index: what the check's rules ask of the item at each index.
use Rattle.std.specs.Prelude.{Some}
use mathlib.Core.Path.{◌≡◌, refl, sym, ap, ◌∙◌, subst}
use mathlib.Core.Logic.{⊎_elim, ◌⊎◌, inl, inr}
use mathlib.Core.Bool.{true}
use mathlib.Core.List.{List}
use Prim.Native.Nat.{ℕ, suc, ◌+◌, ◌*◌, ◌%◌, ◌≤◌, ◌<◌}
use native.Mathlib.Omega.{arith}
use lib.ListN.{length, get_or}
use Rattle.words.specs.Choice.{pick}
use Rattle.layout.specs.declared.item.Item.{Item}
use Rattle.layout.specs.Limits.{longest_file}
use Rattle.layout.specs.Item.{item_at, no_item}
use Rattle.layout.specs.Kind.{kind_byte}
use Rattle.layout.proofs.AnswerLaws.{pointer_inside_is}
use Rattle.read_listing.specs.Children.{child_at, child_count}
use Rattle.check_rules.specs.Rules.{index_of}
use Rattle.check_table.specs.Sound.{ValueGood, InList, SoundIn}
use Rattle.model.specs.Table.{Content, State, Has, kind_of, is_container, is_child}
use Rattle.image.specs.Index.{index_in, item_of, laid_index}
use Rattle.image.specs.Image.{children_of, parent_index, covers_of, table_bytes}
use Rattle.image.specs.WellFormed.{WellFormed, Writable}
use Rattle.image.specs.Laid.{Holds}
use Rattle.image.specs.Fits.{opened_as}
use Rattle.image.proofs.IndexLaws.{item_within, index_item}
use Rattle.laid.specs.Back.{Lay, end_of, table_opened, value_offset, ItemBack}
use Rattle.laid.proofs.TableLaws.{bool_cases, parent_child, parent_root, parent_small, parent_item, child_known}
use Rattle.laid.proofs.ItemLaws.{well_formed_lem, index_small, indexed_item, key_of_index, found_back, item_back, offset_eight, offset_four, nested-held, children_held, nested_opens}
use Rattle.laid.proofs.ChildLaws.{ChildIn, child_at_lem, child_listed, child_once, child_word_lem}

-- what an item of kind 'L' holds
kind_container : (c : Content) → kind_byte (kind_of c) ≡ 76 → c ≡ Content.container
kind_container (Content.bytes value) e = absurd (omega arith)
kind_container (Content.nested u) e = absurd (omega arith)
kind_container Content.container e = refl

pub container_known : (c : Content) → is_container c ≡ true → c ≡ Content.container
container_known (Content.bytes value) e = cc
container_known (Content.nested u) e = cc
container_known Content.container e = refl

module _ (lay : Lay) (file : List ℕ) (state : State) (d t at : ℕ) (held : Holds file at (table_bytes lay.manner.byte lay.filter state (suc d) t at)) (short : length file ≤ longest_file)
    (even : at % 4 ≡ 0) (good : Writable state (suc d) t) where
  abbrev count : ℕ
  count = length (state t).members

  well : WellFormed (state t)
  well = well_formed_lem state d t good

  -- the record at an index, and the item there
  abbrev item : ℕ → Item
  item k = item_at file (table_opened lay.filter state t at) k

  abbrev of : ℕ → ℕ
  of k = item_of lay.manner.byte (state t) k

  has : (k : ℕ) → k < count → Has (state t).members (of k)
  has k l = item_within lay.manner.byte (state t) well.once k l

  again : (k : ℕ) → k < count → laid_index lay.manner.byte (state t) (of k) ≡ k
  again k l = index_item lay.manner.byte (state t) well.once k l

  back : (k : ℕ) → k < count → ItemBack lay.manner.byte lay.filter file state d t at (of k) (item k)
  back k l = subst (λ (n : ℕ). ItemBack lay.manner.byte lay.filter file state d t at (of k) (item n)) (again k l) (item_back lay file state d t at held short even good (of k) (has k l))

  -- ---- rules 1 and 2: lookup of its key answers this index
  key_finds_lem : (k : ℕ) → k < count → index_of lay.manner file (table_opened lay.filter state t at) ((state t).key (of k)) ≡ Some k
  unfolding index_of pick
  key_finds_lem k l = rw (well.utf8 (of k) (has k l)) (found_back lay file state d t at held short even good (of k) (has k l) ∙ ap Some (again k l))

  -- ---- rules 3 and 4: the kind is known, and the value pointer opens
  value_good : (k : ℕ) → k < count → ValueGood file (item k)
  unfolding covers_of
  value_good k l = by ((state t).content (of k)) refl
    where
      by : (c : Content) → (state t).content (of k) ≡ c → ValueGood file (item k)
      by (Content.bytes value) e =
          let b = back k l in
          let from : (item k).from ≡ value_offset lay.manner.byte lay.filter state d t at (of k) = b.from in
          let to : (item k).to ≡ value_offset lay.manner.byte lay.filter state d t at (of k) + length value = rw e at b.to in
          let fits : value_offset lay.manner.byte lay.filter state d t at (of k) + length value ≤ length file = rw e at b.fits in
          ValueGood.value (rw e at b.kind)
          (pointer_inside_is (length file) (item k).from (item k).to 8 (omega arith) (rw from (offset_eight lay file state d t at held short even good (of k) (has k l) (rw e))) (omega arith))
      by (Content.nested u) e =
          let b = back k l in
          let v = value_offset lay.manner.byte lay.filter state d t at (of k) in
          let from : (item k).from ≡ v = b.from in
          let to : (item k).to ≡ end_of lay.filter state u v = rw e at b.to in
          ValueGood.table (rw e at b.kind) {t = table_opened lay.filter state u v}
          (rw (from, to) (nested_opens lay file state d u v short (nested-held lay file state d t at held short even good (of k) u (has k l) e)))
      by Content.container e =
          let b = back k l in
          let from : (item k).from ≡ value_offset lay.manner.byte lay.filter state d t at (of k) = b.from in
          let to : (item k).to ≡ value_offset lay.manner.byte lay.filter state d t at (of k) + 4 * length (children_of (state t) (of k)) = rw e at b.to in
          let fits : value_offset lay.manner.byte lay.filter state d t at (of k) + 4 * length (children_of (state t) (of k)) ≤ length file = rw e at b.fits in
          ValueGood.list (rw e at b.kind)
          (pointer_inside_is (length file) (item k).from (item k).to 4 (omega arith) (rw from (offset_four lay file state d t at held short even good (of k) (has k l) (rw e))) (omega arith))
          (omega arith)

  -- ---- rule 6: its parent, if any, is 'L'
  parent_good_lem : (k : ℕ) → k < count → ((item k).parent ≡ no_item) ⊎ (((item k).parent < count) × ((item (item k).parent).kind ≡ 76))
  unfolding is_child
  parent_good_lem k l =
      let up : (item k).parent ≡ parent_index lay.manner.byte (state t) (of k) = (back k l).parent in
      ⊎_elim
      (λ c.
      let small = parent_small (state t) well lay.manner.byte (of k) (has k l) c in
      let above : (state t).content (of (parent_index lay.manner.byte (state t) (of k))) ≡ Content.container =
      ap (state t).content (parent_item (state t) well lay.manner.byte (of k) (has k l) c) ∙ container_known _ c in
      inr (rw up small, rw up ((back (parent_index lay.manner.byte (state t) (of k)) small).kind ∙ ap (λ (x : Content). kind_byte (kind_of x)) above)))
      (λ c. inl (up ∙ parent_root (state t) well lay.manner.byte (of k) c))
      (bool_cases (is_child (state t) (of k)))

  -- ---- a container's children, by their words
  module _ (k : ℕ) (l : k < count) (kind : (item k).kind ≡ 76) where
    abbrev children : List ℕ
    children = children_of (state t) (of k)

    is : (state t).content (of k) ≡ Content.container
    is = kind_container ((state t).content (of k)) (sym (back k l).kind ∙ kind)

    -- how many children there are
    pub children_count : child_count (item k) ≡ length children
    unfolding child_count covers_of
    children_count =
        let b = back k l in
        let to : (item k).to ≡ value_offset lay.manner.byte lay.filter state d t at (of k) + 4 * length children = rw is at b.to in
        rw (b.from, to) (omega arith)

    -- the word of child j is its index
    pub child_index : (j : ℕ) → j < length children → child_at file (item k).from j ≡ laid_index lay.manner.byte (state t) (get_or children j 0)
    unfolding child_at
    child_index j h =
        rw (back k l).from
        (child_word_lem lay.manner.byte (state t) file children (value_offset lay.manner.byte lay.filter state d t at (of k)) j
        (λ m less. omega (arith, index_small state d t good lay.manner.byte (get_or children m 0) (child_at_lem (state t) (of k) m less).member, well.few))
        h (children_held lay file state d t at held short even good (of k) (has k l) is))

    -- rule 5: each child index is below the count and names this item as parent
    child_names : (c : ℕ) → ChildIn (state t) (of k) c → (item (laid_index lay.manner.byte (state t) c)).parent ≡ k
    unfolding is_child
    child_names c b =
        let child : is_child (state t) c ≡ true = rw (b.above, is) in
        (item_back lay file state d t at held short even good c b.member).parent
        ∙ parent_child (state t) well lay.manner.byte c child ∙ ap (laid_index lay.manner.byte (state t)) b.above ∙ again k l

    listed_good : (j : ℕ) → InList file (item k) j → (j < count) × ((item j).parent ≡ k)
    listed_good j (m, less, word) =
        let h : m < length children = rw children_count at less in
        let b = child_at_lem (state t) (of k) m h in
        let same : laid_index lay.manner.byte (state t) (get_or children m 0) ≡ j = sym (child_index m h) ∙ word in
        (rw same at (index_small state d t good lay.manner.byte (get_or children m 0) b.member), rw same at (child_names (get_or children m 0) b))

    -- rule 6: an item is listed by the container that it names
    good_listed : (j : ℕ) → j < count → (item j).parent ≡ k → InList file (item k) j
    good_listed j h e =
        let parent : parent_index lay.manner.byte (state t) (of j) ≡ k = sym (back j h).parent ∙ e in
        let child : is_child (state t) (of j) ≡ true = child_known (state t) well lay.manner.byte (of j) (λ root. omega (arith, well.few)) in
        let above : (state t).above (of j) ≡ of k = sym (parent_item (state t) well lay.manner.byte (of j) (has j h) child) ∙ ap (item_of lay.manner.byte (state t)) parent in
        let s = child_listed (state t) (of k) (of j) (has j h) above in (
          index_in children (of j),
          rw children_count s.within,
          child_index (index_in children (of j)) s.within ∙ ap (laid_index lay.manner.byte (state t)) s.is ∙ again j h,
        )

    -- rule 5: and appears once
    listed_once : (a b : ℕ) → a < child_count (item k) → b < child_count (item k) → child_at file (item k).from a ≡ child_at file (item k).from b → a ≡ b
    listed_once a b fa fb e =
        let ha : a < length children = rw children_count at fa in
        let hb : b < length children = rw children_count at fb in
        let numbers : laid_index lay.manner.byte (state t) (get_or children a 0) ≡ laid_index lay.manner.byte (state t) (get_or children b 0) = sym (child_index a ha) ∙ e ∙ child_index b hb in
        child_once (state t) (of k) well.once a b ha hb
        (sym (indexed_item state d t good lay.manner.byte (get_or children a 0) (child_at_lem (state t) (of k) a ha).member)
        ∙ ap (item_of lay.manner.byte (state t)) numbers
        ∙ indexed_item state d t good lay.manner.byte (get_or children b 0) (child_at_lem (state t) (of k) b hb).member)

  -- a laid table is sound
  pub laid_sound : SoundIn lay.manner file (table_opened lay.filter state t at)
  unfolding opened_as
  laid_sound = record {
    keys = λ k l. ((state t).key (of k), key_of_index lay file state d t at held short even good k l, key_finds_lem k l);
    values = value_good;
    parents = parent_good_lem;
    lists = λ k j l kind. (listed_good k l kind j, λ child. good_listed k l kind j child.0 child.1);
    once = λ k a b l kind. listed_once k l kind a b;
  }
