-- Two tables that agree but for the numbers of their items have the same plan.
use mathlib.Core.Path.{◌≡◌, refl, sym, ap, ◌∙◌}
use mathlib.Core.Bool.{Bool, true, false}
use mathlib.Core.List.{List, [], ◌∷◌, ◌++◌, map}
use Prim.Native.Nat.{ℕ, suc, ◌*◌, ◌≤◌, ◌<◌}
use native.Mathlib.Omega.{arith}
use lib.ListN.{length, drop, length-map}
use Rattle.words.specs.Choice.{pick}
use Rattle.words.proofs.ChoiceLaws.{pick_true, pick-false}
use Rattle.key_hash.specs.Hash.{hash_by}
use Rattle.layout.specs.Kind.{kind_byte}
use Rattle.layout.specs.Item.{no_item}
use Rattle.layout.specs.Sizes.{chunk_size}
use Rattle.model.specs.Table.{Content, Rows, State, kind_of, times, Has, is_child, fragment_at}
use Rattle.image.specs.Index.{bucket_start, item_of, laid_index}
use Rattle.image.specs.Plan.{word}
use Rattle.image.specs.Fits.{SamePlan}
use Rattle.image.specs.Image.{align_of, children_of, parent_index, child_words, value_of, covers_of, plan_of, table_bytes}
use Rattle.image.proofs.TimesLaws.{times_here, times_cons}
use Rattle.image.proofs.SameLaws.{plan_same}
use Rattle.image.proofs.IndexLaws.{item_within, item_index_lem, index_within, index_item}
use Rattle.laid.proofs.ChildLaws.{child_in}
use Rattle.same.proofs.RenamedLaws.{Renamed, count_renamed, hashes_renamed, item_renamed}

-- equal bytes, tables that `same` says are the same and that have as many items, or two containers
pub data SameContent (state other : State) (same : ℕ → ℕ → Type 0) : Content → Content → Type 0 where
  bytes : (value : List ℕ) → SameContent state other same (Content.bytes value) (Content.bytes value)
  nested : (u v : ℕ) → length (state u).members ≡ length (other v).members → same u v → SameContent state other same (Content.nested u) (Content.nested v)
  container : SameContent state other same Content.container Content.container

pub record Paired (state other : State) (same : ℕ → ℕ → Type 0) (f : ℕ → ℕ) (table there : Rows) : Type 0 where
  pub renamed : Renamed f table there
  pub once : (i : ℕ) → times i table.members ≤ 1
  pub once_there : (i : ℕ) → times i there.members ≤ 1
  pub content : (i : ℕ) → Has table.members i → SameContent state other same (table.content i) (there.content (f i))
  pub child : (i : ℕ) → Has table.members i → is_child table i ≡ is_child there (f i)
  pub parent : (i : ℕ) → Has table.members i → is_child table i ≡ true → Has table.members (table.above i)
  pub above : (i : ℕ) → Has table.members i → is_child table i ≡ true → there.above (f i) ≡ f (table.above i)
  pub children : (i : ℕ) → Has table.members i → table.content i ≡ Content.container → children_of there (f i) ≡ map f (children_of table i)

module _ (rule : ℕ → ℕ) (filter : ℕ) (state other : State) (same : ℕ → ℕ → Type 0) (f : ℕ → ℕ) (table there : Rows) (a : Paired state other same f table there) where
  size : length table.members ≡ length there.members
  size = count_renamed f table there a.renamed

  item : (k : ℕ) → k < length table.members → f (item_of rule table k) ≡ item_of rule there k
  item k l = sym (item_renamed f table there a.renamed rule k l)

  has : (k : ℕ) → k < length table.members → Has table.members (item_of rule table k)
  has k l = item_within rule table a.once k l

  index_renamed : (i : ℕ) → Has table.members i → laid_index rule table i ≡ laid_index rule there (f i)
  index_renamed i h =
      let k = laid_index rule table i in
      let low : k < length table.members = index_within rule table a.once i h in
      sym (ap (laid_index rule there) (sym (item_renamed f table there a.renamed rule k low ∙ ap f (item_index_lem rule table a.once i h)))
      ∙ index_item rule there a.once_there k (omega (arith, low, size)))

  parent_renamed : (i : ℕ) → Has table.members i → parent_index rule table i ≡ parent_index rule there (f i)
  unfolding parent_index
  parent_renamed i h = by (is_child table i) refl
    where
      by : (q : Bool) → is_child table i ≡ q → pick (is_child table i) (laid_index rule table (table.above i)) no_item ≡ pick (is_child there (f i)) (laid_index rule there (there.above (f i))) no_item
      by true e =
          pick_true _ _ e ∙ index_renamed (table.above i) (a.parent i h e) ∙ ap (laid_index rule there) (sym (a.above i h e))
          ∙ sym (pick_true _ _ (sym (a.child i h) ∙ e))
      by false e = pick-false _ _ e ∙ sym (pick-false _ _ (sym (a.child i h) ∙ e))

  fragment_renamed : (i : ℕ) → Has table.members i → fragment_at table i ≡ fragment_at there (f i)
  unfolding fragment_at
  fragment_renamed i h = by (is_child table i) refl
    where
      by : (q : Bool) → is_child table i ≡ q
          → pick (is_child table i) (drop (length (table.key (table.above i))) (table.key i)) (table.key i) ≡ pick (is_child there (f i)) (drop (length (there.key (there.above (f i)))) (there.key (f i))) (there.key (f i))
      by true e =
          let up : there.key (there.above (f i)) ≡ table.key (table.above i) = ap there.key (a.above i h e) ∙ a.renamed.key (table.above i) (a.parent i h e) in
          pick_true _ _ e ∙ sym (ap (λ (k : List ℕ). drop (length k) (there.key (f i))) up ∙ ap (drop (length (table.key (table.above i)))) (a.renamed.key i h))
          ∙ sym (pick_true _ _ (sym (a.child i h) ∙ e))
      by false e = pick-false _ _ e ∙ sym (a.renamed.key i h) ∙ sym (pick-false _ _ (sym (a.child i h) ∙ e))

  words_renamed : (l : List ℕ) → ((c : ℕ) → Has l c → Has table.members c) → child_words rule table l ≡ child_words rule there (map f l)
  unfolding child_words
  words_renamed [] all = refl
  words_renamed (c ∷ l) all =
      let head : laid_index rule table c ≡ laid_index rule there (f c) = index_renamed c (all c (omega (arith, times_here c c l refl))) in
      let rest : child_words rule table l ≡ child_words rule there (map f l) = words_renamed l (λ x h. all x (omega (arith, h, times_cons x c l))) in
      ap (λ (n : ℕ). word n ++ child_words rule table l) head ∙ ap (λ (m : List ℕ). word (laid_index rule there (f c)) ++ m) rest

  children_renamed : (i : ℕ) → Has table.members i → table.content i ≡ Content.container → child_words rule table (children_of table i) ≡ child_words rule there (children_of there (f i))
  children_renamed i h e = words_renamed (children_of table i) (λ c g. (child_in table i c g).member) ∙ ap (child_words rule there) (sym (a.children i h e))

  -- what the plans ask of an item, by what it holds
  kind_by : (c d : Content) → SameContent state other same c d → kind_byte (kind_of c) ≡ kind_byte (kind_of d)
  kind_by c d (SameContent.bytes value) = refl
  kind_by c d (SameContent.nested u v many is) = refl
  kind_by c d SameContent.container = refl

  align_by : (c d : Content) → SameContent state other same c d → align_of c ≡ align_of d
  align_by c d (SameContent.bytes value) = refl
  align_by c d (SameContent.nested u v many is) = refl
  align_by c d SameContent.container = refl

  module _ (inner within : ℕ → ℕ → List ℕ) (alike : (u v at : ℕ) → same u v → inner u at ≡ within v at) where
    value_by : (i : ℕ) → Has table.members i → (c d : Content) → table.content i ≡ c → SameContent state other same c d → (at : ℕ)
        → value_of rule filter inner state table i c at ≡ value_of rule filter within other there (f i) d at
    unfolding value_of
    value_by i h c d e (SameContent.bytes value) at = refl
    value_by i h c d e (SameContent.nested u v many is) at = alike u v at is
    value_by i h c d e SameContent.container at = children_renamed i h e

    covers_by : (i : ℕ) → Has table.members i → (c d : Content) → table.content i ≡ c → SameContent state other same c d
        → covers_of rule filter inner state table i c ≡ covers_of rule filter within other there (f i) d
    unfolding covers_of
    covers_by i h c d e (SameContent.bytes value) = refl
    covers_by i h c d e (SameContent.nested u v many is) = ap (chunk_size filter) many
    covers_by i h c d e SameContent.container = ap (λ (n : ℕ). 4 * n) (sym (ap length (a.children i h e) ∙ length-map (children_of table i) f))

    pub plan_renamed : SamePlan (plan_of rule filter inner state table) (plan_of rule filter within other there)
    unfolding plan_of
    plan_renamed = record {
      count = size;
      filter = refl;
      first = λ b l. ap (λ (m : List ℕ). bucket_start m b) (sym (hashes_renamed f table there a.renamed rule));
      hash = λ k l. ap (hash_by rule) (sym (a.renamed.key _ (has k l)) ∙ ap there.key (item k l));
      parent = λ k l. parent_renamed _ (has k l) ∙ ap (parent_index rule there) (item k l);
      fragment = λ k l. fragment_renamed _ (has k l) ∙ ap (fragment_at there) (item k l);
      kind = λ k l. kind_by _ _ (a.content _ (has k l)) ∙ ap (λ (x : ℕ). kind_byte (kind_of (there.content x))) (item k l);
      align = λ k l. align_by _ _ (a.content _ (has k l)) ∙ ap (λ (x : ℕ). align_of (there.content x)) (item k l);
      value = λ k at l. value_by _ (has k l) _ _ refl (a.content _ (has k l)) at ∙ ap (λ (x : ℕ). value_of rule filter within other there x (there.content x) at) (item k l);
      covers = λ k l. covers_by _ (has k l) _ _ refl (a.content _ (has k l)) ∙ ap (λ (x : ℕ). covers_of rule filter within other there x (there.content x)) (item k l);
    }

-- A TABLE WHOSE ITEMS HAVE OTHER NUMBERS, with the same keys, contents and lists of children, lays the same bytes wherever it is laid, if the tables nested in it do.
pub lays_renamed : (rule : ℕ → ℕ) (filter : ℕ) (state other : State) (d t v : ℕ) (f : ℕ → ℕ)
    → Paired state other (λ u w. (at : ℕ) → table_bytes rule filter state d u at ≡ table_bytes rule filter other d w at) f (state t) (other v)
    → (at : ℕ) → table_bytes rule filter state (suc d) t at ≡ table_bytes rule filter other (suc d) v at
unfolding table_bytes
lays_renamed rule filter state other d t v f pair at =
    let here : ℕ → ℕ → List ℕ = λ u start. table_bytes rule filter state d u start in
    let there : ℕ → ℕ → List ℕ = λ u start. table_bytes rule filter other d u start in
    plan_same (plan_of rule filter here state (state t)) (plan_of rule filter there other (other v))
    (plan_renamed rule filter state other (λ u w. (start : ℕ) → here u start ≡ there w start) f (state t) (other v) pair here there (λ u w start q. q start)) at
