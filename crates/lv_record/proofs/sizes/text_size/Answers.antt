use Rattle.std.proofs.Common.{subst}
use Rattle.std.specs.Prelude.{IsUtf8}
use Rattle.std.proofs.lemmas.Str.{is_utf8-from_IsUtf8}
use Rattle.lv_record.proofs.sizes.text_size.Goals as goal

pub returns-clause-typed : goal.returns-clause-typed
returns-clause-typed c = is_utf8-from_IsUtf8 c.args.text.now (subst IsUtf8 c.as_bytes-bytes.ensures.same c.as_bytes-bytes.ensures.utf8)
