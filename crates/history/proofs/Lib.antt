-- The laws of every history, in the order in which they are built. The first half shows that memory stays honest, the second that it means the model.
--
-- Tidy memory (specs/Tidy):
--   TidySearch      on tidy memory the search along a bucket's chain finds the item with a key, where there is one
--   TidyMade        a made item keeps memory tidy, and is read back
--   TidyReplaced    an item written again keeps memory tidy, and is read back
--   TidyTables      the fresh start is tidy, and so is memory in which only words of tables changed
-- Good and honest memory (specs/Consistent, specs/Honest):
--   Utf8Bytes       a text that is UTF-8 is of bytes
--   Consistent      one item more, one written again, one table placed, one table more keep tables and items consistent
--   WayDown         the way down the containers of a key that are there
--   GoodContainers  the containers that are missing are made, and memory stays good
--   GoodInsert      an insert keeps memory good
--   HonestCalls     the insert of a value, a new table and the fresh start keep memory honest
--   HonestNesting   the insert of a table keeps memory honest
--   History         every memory that calls reach is honest and fully valid: such a caller never meets 29
-- The model (crate model) on honest memory:
--   Meaning         what each step does to the builder that the memory means
--   ModelSearch     the search for a key answers what the model's search does
--   ModelWalk       the model's walk along the prefixes of a key, a prefix at a time
--   ModelSteps      the way down and the missing containers are those of the model's walk
--   ModelInsert     an insert past the tests of its key answers and leaves what the model's does
--   ModelCalls      the insert of a value, the count, a new table and the fresh start are the model's
--   Height          the height that the words tell is the one that the model follows
--   ModelNesting    the insert of a table is the model's
-- In the words of document 01:
--   Sentences       what it says of the builder, for every memory that calls reach
--   OtherTables     calls on one table change no item of another
pub mod TidySearch
pub mod TidyMade
pub mod TidyReplaced
pub mod TidyTables
pub mod Utf8Bytes
pub mod Consistent
pub mod WayDown
pub mod GoodContainers
pub mod GoodInsert
pub mod HonestCalls
pub mod PlacedTable
pub mod HonestNesting
pub mod History
pub mod Meaning
pub mod ModelSearch
pub mod ModelWalk
pub mod ModelSteps
pub mod ModelInsert
pub mod ModelCalls
pub mod Height
pub mod ModelNesting
pub mod Sentences
pub mod OtherTables
