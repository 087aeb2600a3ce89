-- What is drawn, as an item.
use Rattle.gl_records.specs.Captured.{Captured, Clear}
use Rattle.whole_surface.specs.declared.paint.Paint.{Paint}
use Rattle.whole_surface.specs.declared.paint.Paint.TheVariants as paint
use Rattle.whole_surface.specs.Subjects.{drawing_of}

abbrev pub item_of : Paint → Captured
item_of (paint.Draw subject) = drawing_of subject
item_of (paint.Clear clear) = Clear clear
