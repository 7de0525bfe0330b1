-- The filter of a laid table has exactly the bits that its items ask for.
use Prim.Native.Nat.{ℕ, suc, ◌+◌, ◌*◌, ◌<◌}
use mathlib.Core.Path.{◌≡◌, sym, ap, ◌∙◌, subst}
use mathlib.Core.List.{List}
use lib.ListN.{length}
use Rattle.words.specs.Field.{word_at}
use Rattle.words.specs.Bits.{bit_set}
use Rattle.key_hash.specs.Hash.{hash_by}
use Rattle.model.specs.Table.{State, Has}
use Rattle.image.specs.Plan.{filter_word, plan_bytes}
use Rattle.image.specs.Index.{item_of, laid_index}
use Rattle.image.specs.Filter.{Asked}
use Rattle.image.specs.Image.{plan_of, table_bytes}
use Rattle.image.specs.WellFormed.{WellFormed}
use Rattle.image.specs.Laid.{Holds}
use Rattle.image.proofs.PlanLaws.{read_filter}
use Rattle.image.proofs.FilterLaws.{filter_small}
use Rattle.image.proofs.FilterExact.{filter_exact}
use Rattle.image.proofs.IndexLaws.{item_within, item_index_lem, index_within}
use Rattle.laid.specs.Back.{plan_at}
use Rattle.laid.specs.Filter.{AsksFor, FilterLaid}

module _ (rule : ℕ → ℕ) (filter : ℕ) (file : List ℕ) (state : State) (d t at : ℕ) (held : Holds file at (table_bytes rule filter state (suc d) t at)) (good : WellFormed (state t)) (k b : ℕ) (some : k < filter) where
  abbrev hash : ℕ → ℕ
  hash j = hash_by rule ((state t).key (item_of rule (state t) j))

  abbrev count : ℕ
  count = length (state t).members

  held_plan : Holds file at (plan_bytes (plan_at rule filter state d t) at)
  unfolding table_bytes
  held_plan = held

  reads : word_at file (at + 8 + 4 * k) ≡ filter_word hash filter k count
  unfolding plan_of
  reads = read_filter file (plan_at rule filter state d t) at held_plan k some (filter_small hash filter k count)

  -- by index, and by item
  by_item : Asked hash filter k count b → (i : ℕ) × Has (state t).members i × AsksFor rule filter (state t) k b i
  by_item (j, l, word, bit) = (item_of rule (state t) j, item_within rule (state t) good.once j l, (word, bit))

  by_index_lem : (i : ℕ) × Has (state t).members i × AsksFor rule filter (state t) k b i → Asked hash filter k count b
  by_index_lem (i, h, asks) =
      let (word, bit) = subst (AsksFor rule filter (state t) k b) (sym (item_index_lem rule (state t) good.once i h)) asks in
      (laid_index rule (state t) i, index_within rule (state t) good.once i h, word, bit)

pub filter_laid : FilterLaid
filter_laid rule filter file state d t at held good k b some =
    let is = ap (λ (w : ℕ). bit_set w b) (reads rule filter file state d t at held good k b some) in
    let (only, asked) = filter_exact (hash rule filter file state d t at held good k b some) filter k (count rule filter file state d t at held good k b some) b in (
      λ set. by_item rule filter file state d t at held good k b some (only (sym is ∙ set)),
      λ asks. is ∙ asked (by_index_lem rule filter file state d t at held good k b some asks),
    )
