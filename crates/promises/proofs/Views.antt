-- Views: the functions whose contract the checker reads.
use mathlib.Core.Path.{sym, ◌∙◌}
use Rattle.promises.specs.One.{One, OneAnswer, SameSlice}
use Rattle.promises.proofs.Same.{slices}
use Rattle.view_part.proofs.part.nothing.Kinds as nothing-kinds
use Rattle.view_part.proofs.part.nothing.Reads as nothing-reads
use Rattle.view_part.proofs.part.stretch.Kinds as stretch-kinds
use Rattle.view_part.proofs.part.stretch.Reads as stretch-reads
use Rattle.view_part.proofs.part.pointer_start.Kinds as pointer-start-kinds
use Rattle.view_part.proofs.part.pointer_start.Reads as pointer-start-reads
use Rattle.view_part.proofs.part.pointer_end.Kinds as pointer-end-kinds
use Rattle.view_part.proofs.part.pointer_end.Reads as pointer-end-reads
use Rattle.view_part.proofs.part.listed_start.Kinds as listed-start-kinds
use Rattle.view_part.proofs.part.listed_start.Reads as listed-start-reads
use Rattle.view_part.proofs.part.listed_end.Kinds as listed-end-kinds
use Rattle.view_part.proofs.part.listed_end.Reads as listed-end-reads
use Rattle.view_part.proofs.part.child_start.Kinds as child-start-kinds
use Rattle.view_part.proofs.part.child_start.Reads as child-start-reads
use Rattle.view_part.proofs.part.child_end.Kinds as child-end-kinds
use Rattle.view_part.proofs.part.child_end.Reads as child-end-reads
use Rattle.view_part.proofs.part.value_part.Kinds as value-part-kinds
use Rattle.view_part.proofs.part.value_part.Reads as value-part-reads
use Rattle.view_part.proofs.part.layered_looked.Kinds as layered-looked-kinds
use Rattle.view_part.proofs.part.layered_looked.Reads as layered-looked-reads
use Rattle.view_part.proofs.part.layered_from.Kinds as layered-from-kinds
use Rattle.view_part.proofs.part.layered_from.Reads as layered-from-reads
use Rattle.view_part.proofs.part.layered_part.Kinds as layered-part-kinds
use Rattle.view_part.proofs.part.layered_part.Reads as layered-part-reads
use Rattle.view_part.proofs.part.listed_part.Kinds as listed-part-kinds
use Rattle.view_part.proofs.part.listed_part.Reads as listed-part-reads
use Rattle.view_part.proofs.part.child_part.Kinds as child-part-kinds
use Rattle.view_part.proofs.part.child_part.Reads as child-part-reads
use Rattle.view_part.proofs.part.nested_part.Kinds as nested-part-kinds
use Rattle.view_part.proofs.part.nested_part.Reads as nested-part-reads
use Rattle.view_part.proofs.part.opened_part.Kinds as opened-part-kinds
use Rattle.view_part.proofs.part.opened_part.Reads as opened-part-reads
use Rattle.view_part.proofs.part.opened_pointer.Kinds as opened-pointer-kinds
use Rattle.view_part.proofs.part.opened_pointer.Reads as opened-pointer-reads
use Rattle.view_through.proofs.through.value_bytes.Kinds as value-bytes-kinds
use Rattle.view_through.proofs.through.value_bytes.Reads as value-bytes-reads
use Rattle.view_layered.proofs.layered.layered_bytes.Kinds as layered-bytes-kinds
use Rattle.view_layered.proofs.layered.layered_bytes.Reads as layered-bytes-reads
use Rattle.view_through.proofs.through.nested_bytes.Kinds as nested-bytes-kinds
use Rattle.view_through.proofs.through.nested_bytes.Reads as nested-bytes-reads

pub nothing-unique : One nothing-kinds.ps nothing-kinds.r nothing-reads.Post (λ κs s t x y. SameSlice s t)
nothing-unique κs a s t x y p q = slices p q

pub stretch-unique : One stretch-kinds.ps stretch-kinds.r stretch-reads.Post (λ κs s t x y. SameSlice s t)
stretch-unique κs a s t x y p q = slices p q

pub pointer-start-unique : OneAnswer pointer-start-kinds.ps pointer-start-kinds.r pointer-start-reads.Post
pointer-start-unique κs a s t x y p q = p ∙ sym q

pub pointer-end-unique : OneAnswer pointer-end-kinds.ps pointer-end-kinds.r pointer-end-reads.Post
pointer-end-unique κs a s t x y p q = p ∙ sym q

pub listed-start-unique : OneAnswer listed-start-kinds.ps listed-start-kinds.r listed-start-reads.Post
listed-start-unique κs a s t x y p q = p ∙ sym q

pub listed-end-unique : OneAnswer listed-end-kinds.ps listed-end-kinds.r listed-end-reads.Post
listed-end-unique κs a s t x y p q = p ∙ sym q

pub child-start-unique : OneAnswer child-start-kinds.ps child-start-kinds.r child-start-reads.Post
child-start-unique κs a s t x y p q = p ∙ sym q

pub child-end-unique : OneAnswer child-end-kinds.ps child-end-kinds.r child-end-reads.Post
child-end-unique κs a s t x y p q = p ∙ sym q

pub value-part-unique : One value-part-kinds.ps value-part-kinds.r value-part-reads.Post (λ κs s t x y. SameSlice s t)
value-part-unique κs a s t x y p q = slices p q

pub layered-looked-unique : OneAnswer layered-looked-kinds.ps layered-looked-kinds.r layered-looked-reads.Post
layered-looked-unique κs a s t x y p q = p ∙ sym q

pub layered-from-unique : OneAnswer layered-from-kinds.ps layered-from-kinds.r layered-from-reads.Post
layered-from-unique κs a s t x y p q = p ∙ sym q

pub layered-part-unique : One layered-part-kinds.ps layered-part-kinds.r layered-part-reads.Post (λ κs s t x y. SameSlice s t)
layered-part-unique κs a s t x y p q = slices p q

pub listed-part-unique : One listed-part-kinds.ps listed-part-kinds.r listed-part-reads.Post (λ κs s t x y. SameSlice s t)
listed-part-unique κs a s t x y p q = slices p q

pub child-part-unique : One child-part-kinds.ps child-part-kinds.r child-part-reads.Post (λ κs s t x y. SameSlice s t)
child-part-unique κs a s t x y p q = slices p q

pub nested-part-unique : One nested-part-kinds.ps nested-part-kinds.r nested-part-reads.Post (λ κs s t x y. SameSlice s t)
nested-part-unique κs a s t x y p q = slices p q

pub opened-part-unique : One opened-part-kinds.ps opened-part-kinds.r opened-part-reads.Post (λ κs s t x y. SameSlice s t)
opened-part-unique κs a s t x y p q = slices p q

pub opened-pointer-unique : OneAnswer opened-pointer-kinds.ps opened-pointer-kinds.r opened-pointer-reads.Post
opened-pointer-unique κs a s t x y p q = p ∙ sym q

pub value-bytes-unique : One value-bytes-kinds.ps value-bytes-kinds.r value-bytes-reads.Post (λ κs s t x y. SameSlice s t)
value-bytes-unique κs a s t x y p q = slices p q

pub layered-bytes-unique : One layered-bytes-kinds.ps layered-bytes-kinds.r layered-bytes-reads.Post (λ κs s t x y. SameSlice s t)
layered-bytes-unique κs a s t x y p q = slices p q

pub nested-bytes-unique : One nested-bytes-kinds.ps nested-bytes-kinds.r nested-bytes-reads.Post (λ κs s t x y. SameSlice s t)
nested-bytes-unique κs a s t x y p q = slices p q
