-- Document 01, **Input**: the node under a pixel, by the boxes of the last pass; and with wish 2 of document 02 the node under a pointer.
use Rattle.field.specs.declared.NodeId.{NodeId}
use Rattle.std.specs.Prelude.{None, Option}
use Rattle.boxes.specs.Hit.{hit_at}
use Rattle.boxes.specs.Pointers.{under_pointer}
use Rattle.tree.specs.declared.Ui.{Ui}
use Rattle.boxes.specs.declared.Pixel.{Pixel}

abbrev pub hit_test : Ui → Pixel → Option NodeId
hit_test u pixel = hit_at u.slots u.layout pixel

abbrev pub hit_under : Ui → Option Pixel → Option NodeId
hit_under u pointer = under_pointer None (hit_test u) pointer
