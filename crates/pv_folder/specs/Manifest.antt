-- The manifest of a tree: an image of everything except the bytes of files.
use Rattle.std.specs.Prelude.{ℕ, List}
use Rattle.pv_steps.specs.Trees.{Files}
use Rattle.pv_text.specs.Facts.{Values}
use Rattle.pv_image.specs.Emptied.{with_empty_files}
use Rattle.pv_image.specs.Images.{IsImage}
use Rattle.pv_image.specs.Spelling.{text_of}

-- The manifest of facts and a tree: the image of the tree with empty files, each of which has the payload `-`.
abbrev pub manifest_of : Values → Files → List ℕ
manifest_of facts t = text_of facts (with_empty_files t)

-- The manifest is an image of these facts and the tree with empty files.
abbrev pub IsManifest : Values → Files → Type 0
IsManifest facts t = IsImage (manifest_of facts t) facts (with_empty_files t)
