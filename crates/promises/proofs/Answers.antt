-- Answers as C is told them, and what a number from C names.
use mathlib.Core.Path.{sym, ◌∙◌}
use Rattle.promises.specs.One.{OneAnswer}
use Rattle.answers.proofs.header.order_of.Kinds as order-of-kinds
use Rattle.answers.proofs.header.order_of.Reads as order-of-reads
use Rattle.answers.proofs.header.GvdbHeaderFromResultHeaderRefusal.from.Kinds as headed-of-kinds
use Rattle.answers.proofs.header.GvdbHeaderFromResultHeaderRefusal.from.Reads as headed-of-reads
use Rattle.answers.proofs.header.header_laid_of.Kinds as header-laid-of-kinds
use Rattle.answers.proofs.header.header_laid_of.Reads as header-laid-of-reads
use Rattle.answers.proofs.manner.form_of.Kinds as form-of-kinds
use Rattle.answers.proofs.manner.form_of.Reads as form-of-reads
use Rattle.answers.proofs.manner.manner_of.Kinds as manner-of-kinds
use Rattle.answers.proofs.manner.manner_of.Reads as manner-of-reads
use Rattle.answers_build.proofs.building.started_of.Kinds as started-of-kinds
use Rattle.answers_build.proofs.building.started_of.Reads as started-of-reads
use Rattle.answers_build.proofs.building.GvdbTableFromResultU32Refusal.from.Kinds as added-of-kinds
use Rattle.answers_build.proofs.building.GvdbTableFromResultU32Refusal.from.Reads as added-of-reads
use Rattle.answers_build.proofs.building.GvdbInsertedFromResultOptionKindRefusal.from.Kinds as inserted-of-kinds
use Rattle.answers_build.proofs.building.GvdbInsertedFromResultOptionKindRefusal.from.Reads as inserted-of-reads
use Rattle.answers_build.proofs.building.GvdbCountFromResultU32Refusal.from.Kinds as counted-of-kinds
use Rattle.answers_build.proofs.building.GvdbCountFromResultU32Refusal.from.Reads as counted-of-reads
use Rattle.answers.proofs.checking.GvdbCheckFromChecked.from.Kinds as checked-of-kinds
use Rattle.answers.proofs.checking.GvdbCheckFromChecked.from.Reads as checked-of-reads
use Rattle.answers.proofs.reading.GvdbPlaceFromResultPointerRefusal.from.Kinds as looked-of-kinds
use Rattle.answers.proofs.reading.GvdbPlaceFromResultPointerRefusal.from.Reads as looked-of-reads
use Rattle.answers.proofs.reading.GvdbLayeredFromLayered.from.Kinds as layered-of-kinds
use Rattle.answers.proofs.reading.GvdbLayeredFromLayered.from.Reads as layered-of-reads
use Rattle.answers.proofs.reading.GvdbKeyFromResultWrittenKeyRefusal.from.Kinds as listed-of-kinds
use Rattle.answers.proofs.reading.GvdbKeyFromResultWrittenKeyRefusal.from.Reads as listed-of-reads
use Rattle.answers.proofs.reading.GvdbValueFromValued.from.Kinds as valued-of-kinds
use Rattle.answers.proofs.reading.GvdbValueFromValued.from.Reads as valued-of-reads
use Rattle.answers.proofs.reading.GvdbChildFromResultChildRefusal.from.Kinds as childed-of-kinds
use Rattle.answers.proofs.reading.GvdbChildFromResultChildRefusal.from.Reads as childed-of-reads
use Rattle.answers_build.proofs.writing.GvdbImageFromResultImageRefusal.from.Kinds as written-of-kinds
use Rattle.answers_build.proofs.writing.GvdbImageFromResultImageRefusal.from.Reads as written-of-reads

pub order-of-unique : OneAnswer order-of-kinds.ps order-of-kinds.r order-of-reads.Post
order-of-unique κs a s t x y p q = p ∙ sym q

pub headed-of-unique : OneAnswer headed-of-kinds.ps headed-of-kinds.r headed-of-reads.Post
headed-of-unique κs a s t x y p q = p ∙ sym q

pub header-laid-of-unique : OneAnswer header-laid-of-kinds.ps header-laid-of-kinds.r header-laid-of-reads.Post
header-laid-of-unique κs a s t x y p q = p ∙ sym q

pub form-of-unique : OneAnswer form-of-kinds.ps form-of-kinds.r form-of-reads.Post
form-of-unique κs a s t x y p q = p ∙ sym q

pub manner-of-unique : OneAnswer manner-of-kinds.ps manner-of-kinds.r manner-of-reads.Post
manner-of-unique κs a s t x y p q = p ∙ sym q

pub started-of-unique : OneAnswer started-of-kinds.ps started-of-kinds.r started-of-reads.Post
started-of-unique κs a s t x y p q = p ∙ sym q

pub added-of-unique : OneAnswer added-of-kinds.ps added-of-kinds.r added-of-reads.Post
added-of-unique κs a s t x y p q = p ∙ sym q

pub inserted-of-unique : OneAnswer inserted-of-kinds.ps inserted-of-kinds.r inserted-of-reads.Post
inserted-of-unique κs a s t x y p q = p ∙ sym q

pub counted-of-unique : OneAnswer counted-of-kinds.ps counted-of-kinds.r counted-of-reads.Post
counted-of-unique κs a s t x y p q = p ∙ sym q

pub checked-of-unique : OneAnswer checked-of-kinds.ps checked-of-kinds.r checked-of-reads.Post
checked-of-unique κs a s t x y p q = p ∙ sym q

pub looked-of-unique : OneAnswer looked-of-kinds.ps looked-of-kinds.r looked-of-reads.Post
looked-of-unique κs a s t x y p q = p ∙ sym q

pub layered-of-unique : OneAnswer layered-of-kinds.ps layered-of-kinds.r layered-of-reads.Post
layered-of-unique κs a s t x y p q = p ∙ sym q

pub listed-of-unique : OneAnswer listed-of-kinds.ps listed-of-kinds.r listed-of-reads.Post
listed-of-unique κs a s t x y p q = p ∙ sym q

pub valued-of-unique : OneAnswer valued-of-kinds.ps valued-of-kinds.r valued-of-reads.Post
valued-of-unique κs a s t x y p q = p ∙ sym q

pub childed-of-unique : OneAnswer childed-of-kinds.ps childed-of-kinds.r childed-of-reads.Post
childed-of-unique κs a s t x y p q = p ∙ sym q

pub written-of-unique : OneAnswer written-of-kinds.ps written-of-kinds.r written-of-reads.Post
written-of-unique κs a s t x y p q = p ∙ sym q
