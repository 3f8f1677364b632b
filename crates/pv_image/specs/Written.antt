-- How much of a tree is written: all of it, or all except the bytes of its files.
use Rattle.std.specs.Prelude.{ℕ, List}
use Rattle.pv_steps.specs.declared.node.Kind.{Kind}
use Rattle.pv_steps.specs.declared.object.Object.{Object}
use Rattle.pv_steps.specs.Trees.{Files}
use Rattle.pv_image.specs.declared.extent.Extent.{Extent}
use Rattle.pv_image.specs.declared.extent.Extent.TheVariants.{Whole, EmptyFiles}
use Rattle.pv_image.specs.Emptied.{emptied, emptied_payload, with_empty_files}

-- What is written of a payload.
abbrev pub written_payload : Extent → Kind → List ℕ → List ℕ
written_payload Whole kind payload = payload
written_payload EmptyFiles kind payload = emptied_payload kind payload

-- What is written of an object.
abbrev pub written_object : Extent → Object → Object
written_object Whole o = o
written_object EmptyFiles o = emptied o

-- What is written of a tree.
abbrev pub written_tree : Extent → Files → Files
written_tree Whole t = t
written_tree EmptyFiles t = with_empty_files t
