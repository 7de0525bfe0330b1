-- `build_values::insert::insert_at_key` meets its contract: 24, 8, 20, or on to the way.
use Rattle.build_tables.proofs.TableLaws.{free_standing_facts}
use mathlib.Core.Path.{sym, ◌∙◌}
use Rattle.build_values.proofs.insert.insert_at_key.Goals as goal

pub insert_below_path-requires : goal.insert_below_path-requires
insert_below_path-requires c =
    record {
      valid-memory = c.requires;
      known = (free_standing_facts _ _ (sym c.is_free_standing.ensures ∙ c.if-not-is_free_standing.false)).0;
      short = c.if-key-gt-LONGEST_KEY.false;
    }
