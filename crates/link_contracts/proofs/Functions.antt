-- A call of a function returned and left what the model's step says, and so did an accepted start: `Tied` of `client` and of `engine` reads it
-- off the function's contract, and the call is the one that `Is` names. One equation a function. Assumes nothing.
use mathlib.Core.Path.{◌≡◌, subst}
use Rattle.server.specs.declared.Outcome.TheVariants as told
use Rattle.model.specs.ContractClaims.{Accepted as ServerAccepted}
use Rattle.model.specs.Runs.{step_of}
use Rattle.model.specs.Step.{stepped as serverStepped}
use Rattle.model.specs.Calls.{start_step as serverStartStep}
use Rattle.client_model.specs.Step.{stepped}
use Rattle.client_model.specs.Calls.{start_step}
use Rattle.client_model.specs.Refusals.{client_step}
use Rattle.client_model.specs.declared.Outcome.TheVariants as said
use Rattle.client.proofs.Tied as client_tied
use Rattle.engine.proofs.Tied as engine_tied
use Rattle.link.specs.ContractClaims.{ClientAccepted}
use Rattle.link_contracts.specs.ClientFunctions as client
use Rattle.link_contracts.specs.ClientFunctions.{CallOnClient, ClientMade, ClientStart, ClientStarts}
use Rattle.link_contracts.specs.ServerFunctions as server
use Rattle.link_contracts.specs.ServerFunctions.{CallOnServer, ServerMade, ServerStart, ServerStarts}

-- ---- the client

-- the call returned and left the model's step
abbrev pub ClientSteps : CallOnClient → Type 0
ClientSteps y = y.returned ≡ client_step y.client y.stores y.call

pub client-steps : (y : CallOnClient) → ClientMade y → ClientSteps y
client-steps y (client.connects w) =
    subst ClientSteps w.is (client_tied.connect_says w.lifetimes w.args w.result w.exit w.learnt).step
client-steps y (client.disconnects w) =
    subst ClientSteps w.is (client_tied.disconnect_says w.lifetimes w.args w.result w.exit w.learnt).step
client-steps y (client.puts w) =
    subst ClientSteps w.is (client_tied.put-says w.lifetimes w.args w.result w.exit w.learnt).step
client-steps y (client.gets w) =
    subst ClientSteps w.is (client_tied.get_says w.lifetimes w.args w.result w.exit w.learnt).step
client-steps y (client.sends w) =
    subst ClientSteps w.is (client_tied.request-sent-says w.lifetimes w.args w.result w.exit w.learnt).step
client-steps y (client.gives_body w) =
    subst ClientSteps w.is (client_tied.body-given-says w.lifetimes w.args w.result w.exit w.learnt).step
client-steps y (client.takes_part w) =
    subst ClientSteps w.is (client_tied.part-taken-says w.lifetimes w.args w.result w.exit w.learnt).step
client-steps y (client.aborts w) =
    subst ClientSteps w.is (client_tied.abort_says w.lifetimes w.args w.result w.exit w.learnt).step
client-steps y (client.offers_bytes w) =
    subst ClientSteps w.is (client_tied.bytes-offered-says w.lifetimes w.args w.result w.exit w.learnt).step
client-steps y (client.ends_stream w) =
    subst ClientSteps w.is (client_tied.stream_ended-says w.lifetimes w.args w.result w.exit w.learnt).step

pub client-accepted : (y : ClientStart) → ClientStarts y → y.result.outcome ≡ said.Ready
    → ClientAccepted y.settings y.stores y.result y.left
client-accepted y w e =
    record {
      says =
          subst (λ (z : ClientStart). stepped z.result z.left ≡ start_step z.settings z.stores) w.is
          (client_tied.start-says w.lifetimes w.args w.result w.exit w.learnt);
      accepted = e;
    }

-- ---- the server

-- the call returned and left the model's step
abbrev pub ServerSteps : CallOnServer → Type 0
ServerSteps y = y.returned ≡ step_of y.state y.call

pub server-steps : (y : CallOnServer) → ServerMade y → ServerSteps y
server-steps y (server.offers_bytes w) =
    subst ServerSteps w.is (engine_tied.bytes-says w.lifetimes w.args w.result w.exit w.learnt).step
server-steps y (server.ends_stream t w) =
    subst ServerSteps w.is (engine_tied.stream_ended-says t w.lifetimes w.args w.result w.exit w.learnt).step
server-steps y (server.takes_reply t w) =
    subst ServerSteps w.is (engine_tied.reply-taken-says t w.lifetimes w.args w.result w.exit w.learnt).step
server-steps y (server.gives_reply w) =
    subst ServerSteps w.is (engine_tied.reply-says w.lifetimes w.args w.result w.exit w.learnt).step
server-steps y (server.gives_object t w) =
    subst ServerSteps w.is (engine_tied.object-says t w.lifetimes w.args w.result w.exit w.learnt).step
server-steps y (server.gives_body t w) =
    subst ServerSteps w.is (engine_tied.body-says t w.lifetimes w.args w.result w.exit w.learnt).step
server-steps y (server.fails_body t w) =
    subst ServerSteps w.is (engine_tied.body_failed_says t w.lifetimes w.args w.result w.exit w.learnt).step
server-steps y (server.acknowledges t w) =
    subst ServerSteps w.is (engine_tied.acknowledge_says t w.lifetimes w.args w.result w.exit w.learnt).step
server-steps y (server.gives_password t w) =
    subst ServerSteps w.is (engine_tied.password-says t w.lifetimes w.args w.result w.exit w.learnt).step
server-steps y (server.gives_nonce w) =
    subst ServerSteps w.is (engine_tied.nonce-says w.lifetimes w.args w.result w.exit w.learnt).step
server-steps y (server.gives_credentials t w) =
    subst ServerSteps w.is (engine_tied.credentials-says t w.lifetimes w.args w.result w.exit w.learnt).step
server-steps y (server.closes s w) =
    subst ServerSteps w.is (engine_tied.connections_closed-says s w.lifetimes w.args w.result w.exit w.learnt).step

pub server-accepted : (y : ServerStart) → ServerStarts y → y.result.outcome ≡ told.WantsBytes
    → ServerAccepted y.settings y.realm y.stores y.result y.left y.tables
server-accepted y w e =
    record {
      says =
          subst
          (λ (z : ServerStart). serverStepped z.result z.left ≡ serverStartStep z.settings z.realm z.stores z.tables) w.is
          (engine_tied.start-says w.lifetimes w.args w.result w.exit w.learnt);
      accepted = e;
    }
