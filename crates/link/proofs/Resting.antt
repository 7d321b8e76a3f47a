-- Two ends that have just started are at rest: nothing is open, and nothing is on the stream. Assumes nothing.
use mathlib.Core.Path.{◌≡◌, refl, sym, subst}
use mathlib.Core.Bool.{true, false}
use Prim.Native.Nat.{◌≤◌, ◌<◌}
use native.Mathlib.Omega.{arith}
use Rattle.connection.specs.Peer.{peer_with}
use Rattle.connection.proofs.Standings.{PeerFits}
use Rattle.server.specs.declared.Settings.{Settings as ServerSettings}
use Rattle.server.specs.declared.Await.TheVariants as waits
use Rattle.server.specs.declared.Engine.{Engine}
use Rattle.model.specs.Step.{engine_with}
use Rattle.model.specs.Dispatch.{busy}
use Rattle.model.specs.Calls.{started as serverStarted}
use Rattle.model.specs.Guard.{sound_operation as soundServer}
use Rattle.model.proofs.Fit.{Room, room, tables-room}
use Rattle.client_model.specs.Step.{client_with}
use Rattle.client_model.specs.Calls.{started}
use Rattle.client_model.specs.Guard.{sound_operation}
use Rattle.client_model.specs.declared.Settings.{Settings}
use Rattle.client_model.specs.declared.Await.TheVariants as await
use Rattle.client_model.specs.declared.Client.{Client}
use Rattle.link.specs.Link.{Link}
use Rattle.link.specs.Claims.{Fresh}
use Rattle.link.proofs.Joint.{AtRest}

-- two ends that have just started are at rest
pub fresh-rest : (st : ServerSettings) (cs : Settings) (l : Link) → Fresh st cs l → AtRest 255 l
unfolding started client_with serverStarted engine_with peer_with
fresh-rest st cs l f =
    let c = f.client in
    let e = f.server.fresh in
    let r = room st.max_object_size l.server.stores f.server.room in
    record {
      room = f.room;
      begun = subst (λ (x : Client). x.begun < 65535) (sym c) (omega arith);
      latest = subst (λ (x : Client). x.length ≤ 65535) (sym c) (omega arith);
      least = subst (λ (x : Client). 255 ≤ x.remote_max_packet_length) (sym c) (omega arith);
      most = subst (λ (x : Client). x.remote_max_packet_length ≤ 65535) (sym c) (omega arith);
      counts = subst (λ (x : Client). sound_operation x.operation ≡ true) (sym c) refl;
      awaits = subst (λ (x : Client). x.awaits ≡ await.Call) (sym c) refl;
      stays = subst (λ (x : Client). x.aborting ≡ false) (sym c) refl;
      ready =
          record {
            serves =
                record {
                  base =
                      record {
                        room = subst (λ (x : Engine). Room x.settings.max_object_size l.server.stores) (sym e) r;
                        peer = subst (λ (x : Engine). PeerFits x.peer.nonces x.peer) (sym e)
                            (record { count = omega arith; least = omega arith; most = omega arith; nonces = refl; few = omega arith });
                        last = subst (λ (x : Engine). x.length ≤ 65535) (sym e) (omega arith);
                      };
                  begun = subst (λ (x : Engine). x.begun < 65535) (sym e) (omega arith);
                  counts = subst (λ (x : Engine). soundServer x.settings.max_object_size x.operation ≡ true) (sym e) refl;
                  tables = tables-room l.server.tables f.server.tables;
                  srm = subst (λ (x : Engine). x.peer.srm_enabled ≡ false) (sym e) refl;
                  remote = subst (λ (x : Engine). x.peer.remote_max_packet_length ≡ 255) (sym e) refl;
                };
            awaits = subst (λ (x : Engine). x.awaits ≡ waits.Bytes) (sym e) refl;
            told = f.told;
            none-begun = subst (λ (x : Engine). x.begun ≡ 0) (sym e) refl;
            up = f.up;
          };
      idle = subst (λ (x : Engine). busy x.operation ≡ false) (sym e) refl;
      down = f.down;
    }
