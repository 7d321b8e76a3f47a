-- Each row of the table of cases is what the definitions compute. Assumes nothing.
use mathlib.Core.Path.{◌≡◌, refl}
use mathlib.Core.List.{map}
use Rattle.text.specs.Unicode.{up_to_zero_of, codes, all_kept, sizes, whole, units, is_pair, first16, paired, pieces16, scalars16, well_formed16, need, low, high, inside, first8, split8, pieces8, lossy, scalars8, well_formed8, utf8, utf16, joined}
use Rattle.digest.specs.Md5.{step_of, word, steps, block_of, le, padded, blocks, output_of, digest_of, le_value, be, be_value, octets16, numbers16, request_digest}
use Rattle.packet.specs.FirstByte.{named, first_byte, byte_of, same_opcode}
use Rattle.packet.specs.Codes.{is_code, is_success}
use Rattle.packet.specs.Modes.{is_mode, is_parameter, additional, wait, is_action}
use Rattle.packet.specs.Tags.{tags_by, tags, tag_at, last_from, last_under, last_value, last_bytes, write_tags, put_tag}
use Rattle.packet.specs.Header.{encoding_of, tagged, allowed, encoded_at, header_at_of, walk, read_headers, first, first_from, first_place, bytes_of, all_bytes}
use Rattle.packet.specs.Packet.{request_of, request_at, connect_limit, backup, no_create_of, packet_bytes}
use Rattle.packet.specs.Auth.{response_from, response_of, challenge_from, challenge_of, realm_place, user_id_required_of, read_only_of, same, verified, challenge_tags, response_tags}
use Rattle.packet.specs.Canonical.{rewritten, canonical}
use Rattle.journal.specs.Record.{is_body, is_srm, carried_one, carried_by, kept_by_get}
use Rattle.journal.specs.Ids.{without, first_free}
use Rattle.incoming.specs.Frame.{frame_end, framed}
use Rattle.incoming.specs.Survey.{survey_of}
use Rattle.incoming.specs.Gather.{keep_bytes, store_bytes, gather_one, gather_all}
use Rattle.outgoing.specs.Object.{fill, fill_packet, full_chunk, next_packet, body_given_of}
use Rattle.connection.specs.Reply.{send_bytes}
use Rattle.connection.specs.Peer.{peer_with, opened, disconnected_peer}
use Rattle.connection.specs.ConnectReply.{challenges, answered_challenge, connect_headers, challenge_header}
use Rattle.model.specs.Step.{engine_with, sends, sends_connect}
use Rattle.model.specs.Request.{last_packet, last_headers, client_response, user_place}
use Rattle.model.specs.Operation.{put_packet, get_packet, headers_packet}
use Rattle.model.specs.Object.{sends_next}
use Rattle.model.specs.Connect.{connect_packet, connect_sends, connect_answer, password_answer, nonce_answer}
use Rattle.model.specs.Dispatch.{rejection, dispatch, trails, packet_done}
use Rattle.model.specs.Guard.{short, short_tables, long_realm, sound, bad_headers, bad_reply}
use Rattle.model.specs.Calls.{bytes_offered_step, stream_ended_step, reply_taken_step, reply_answer, reply_given_step, object_given_step, body_given_step, body_failed_step, abort_acknowledged_step, password_given_step, nonce_given_step, credentials_given_step, started, start_step}
use Rattle.model.specs.Cases.{comes_of, evaluated, table}

pub cases : map evaluated table ≡ table
unfolding up_to_zero_of codes all_kept sizes whole units is_pair first16 paired pieces16 scalars16 well_formed16 need low high inside
    first8 split8 pieces8 lossy scalars8 well_formed8 utf8 utf16 joined step_of word steps block_of le padded blocks output_of
    digest_of le_value be be_value octets16 numbers16 request_digest named first_byte byte_of same_opcode is_code is_success is_mode
    is_parameter additional wait is_action tags_by tags tag_at last_from last_under last_value last_bytes write_tags put_tag encoding_of
    tagged allowed encoded_at header_at_of walk read_headers first first_from first_place bytes_of all_bytes request_of request_at
    connect_limit backup no_create_of packet_bytes response_from response_of challenge_from challenge_of realm_place user_id_required_of
    read_only_of same verified challenge_tags response_tags rewritten canonical is_body is_srm carried_one carried_by kept_by_get without
    first_free frame_end framed survey_of keep_bytes store_bytes gather_one gather_all fill fill_packet full_chunk next_packet body_given_of
    send_bytes peer_with opened disconnected_peer challenges answered_challenge connect_headers challenge_header engine_with sends
    sends_connect last_packet last_headers put_packet get_packet headers_packet sends_next client_response user_place connect_packet
    connect_sends connect_answer password_answer nonce_answer rejection dispatch trails packet_done short short_tables long_realm sound
    bytes_offered_step stream_ended_step reply_taken_step
    bad_headers bad_reply reply_answer reply_given_step object_given_step body_given_step body_failed_step abort_acknowledged_step password_given_step nonce_given_step
    credentials_given_step started start_step comes_of evaluated
cases = refl
