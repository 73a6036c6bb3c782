-- What was written, part by part.
use Rattle.std.proofs.Common.{◌++◌, ◌∙◌, List, ℕ, ap}
use Rattle.byteorder.specs.Endian.{big_bytes}
use Rattle.pickle_graph.specs.declared.node.Node.TheVariants as nodes
use Rattle.pickle_writing.specs.Spelling.{leaf_text}
use Rattle.bucket_state.proofs.FlatPieces.{link_appended}
use Rattle.bucket_state.proofs.flat.with_link.Goals as goal

pub returns : goal.returns
returns c =
    link_appended c.args.text (leaf_text (nodes.Bytes (big_bytes 8 c.args.oid))) c.args.row.now.module.now c.args.row.now.name.now
    c.in_ok-text.text c.push.new.self c.extend_from_slice.new.self c.push-2.new.self c.extend_from_slice-2.new.self c.extend_from_slice-3.new.self
    (c.in_ok-text.ensures ∙ ap (λ (bytes : List ℕ). c.args.text ++ leaf_text (nodes.Bytes bytes)) c.write_u64.ensures
    ∙ ap (λ (oid : ℕ). c.args.text ++ leaf_text (nodes.Bytes (big_bytes 8 oid))) c.oid.view_is)
    c.in_ok-push.ensures.ok
    (c.in_ok-extend_from_slice.ensures.ok ∙ ap (λ (bytes : List ℕ). c.push.new.self ++ bytes) c.as_bytes.ensures.value)
    c.in_ok-push-2.ensures.ok
    (c.in_ok-extend_from_slice-2.ensures.ok ∙ ap (λ (bytes : List ℕ). c.push-2.new.self ++ bytes) c.as_bytes-2.ensures.value)
    c.in_ok-extend_from_slice-3.ensures.ok
