-- What the code makes of what a store finds. Own.
use Rattle.std.specs.Prelude.{ℕ, ◌==◌, if◌then◌else◌}
use Rattle.zb_model.specs.declared.data.Content.{Content}
use Rattle.zb_model.specs.declared.data.Content.TheVariants.{Held, Absent}
use Rattle.zb_model.specs.declared.found.Found.{Found}
use Rattle.zb_model.specs.declared.found.Found.TheVariants as found
use Rattle.zb_model.specs.declared.new_transaction.NewContent.{NewContent}
use Rattle.zb_model.specs.declared.new_transaction.NewContent.TheVariants as new_content

-- the content that was found
abbrev pub content_found : Found → Content
content_found (found.Held serial bytes end) = Held bytes
content_found (found.Absent serial) = Absent
content_found found.Nothing = Absent

-- the content that was found, where it has this serial
abbrev pub content_found_at : ℕ → Found → Content
content_found_at serial (found.Held at bytes end) = if at == serial then Held bytes else Absent
content_found_at serial (found.Absent at) = Absent
content_found_at serial found.Nothing = Absent

-- what is taken over of what was found
abbrev pub found_taken_over : Found → NewContent
found_taken_over (found.Held serial bytes end) = new_content.AsOf serial
found_taken_over (found.Absent serial) = new_content.Absent
found_taken_over found.Nothing = new_content.Absent
