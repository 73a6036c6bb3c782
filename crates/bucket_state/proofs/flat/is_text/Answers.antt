-- What reads as a text is UTF-8.
use Rattle.std.proofs.lemmas.Str.{is_utf8-from_IsUtf8}
use Rattle.bucket_state.proofs.flat.is_text.Goals as goal

pub returns-in-Ok : goal.returns-in-Ok
returns-in-Ok c = λ h. is_utf8-from_IsUtf8 _ c.in-Ok.ensures.cases.1
