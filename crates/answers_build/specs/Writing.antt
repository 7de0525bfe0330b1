-- The document's number and values of a write's answer, as they cross to C.
use Rattle.std.specs.Prelude.{ℕ, Result, Ok, Err}
use Rattle.layout.specs.declared.refusal.Refusal.{Refusal}
use Rattle.write.specs.declared.Image.{Image}
use Rattle.write.specs.Write.{written_number}
use Rattle.answers_build.specs.declared.writing.GvdbImage.{GvdbImage}

-- start and end of the root pointer, and the image's length; 0 on a refusal
unfoldable pub written_image : Result Image Refusal → ℕ × ℕ × ℕ
written_image (Ok i) = (i.start, i.end, i.length)
written_image (Err why) = (0, 0, 0)

unfoldable pub written_answer : Result Image Refusal → GvdbImage
written_answer written = record {
  number = written_number written;
  start = (written_image written).0;
  end = (written_image written).1;
  length = (written_image written).2;
}
