-- A client joins its session.
use Rattle.std.proofs.Common.{◌∙◌, ap, refl, sym}
use Rattle.client_turns.specs.declared.linked.LinkedClient.{LinkedClient}
use Rattle.client_turns.specs.Joining.{joining_answer, joining_clients}
use Rattle.client_turns.proofs.joining.join.Goals as goal

pub returns-in-Ok : goal.returns-in-Ok
returns-in-Ok g c =
    let left : LinkedClient = record { name = c.args.client.name; session = c.args.client.session; connection = c.args.client.connection; client = c.register-joined.new.client; desk = c.register-joined.new.desk } in
    record {
      joining = record {
        left = left;
        said = c.register-joined.result;
        joins = c.register-joined.ensures.joined;
        name = refl;
        session = refl;
        connection = refl;
        answer = sym (ap (joining_answer c.args.client.session) c.in-Ok.is);
        clients = c.push_client.ensures ∙ sym (ap (joining_clients c.args.clients.now.items left) c.in-Ok.is);
      };
    }

pub returns-in-Err : goal.returns-in-Err
returns-in-Err g c =
    let left : LinkedClient = record { name = c.args.client.name; session = c.args.client.session; connection = c.args.client.connection; client = c.register-joined.new.client; desk = c.register-joined.new.desk } in
    record {
      joining = record {
        left = left;
        said = c.register-joined.result;
        joins = c.register-joined.ensures.joined;
        name = refl;
        session = refl;
        connection = refl;
        answer = sym (ap (joining_answer c.args.client.session) c.in-Err.is);
        clients = sym (ap (joining_clients c.args.clients.now.items left) c.in-Err.is);
      };
    }
