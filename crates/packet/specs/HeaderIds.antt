-- Header ids (IrOBEX 1.5, section 2.1): the numbers of `packet::header_id`, under the same names. The two top bits of an id give the
-- encoding of its value.
use Rattle.std.specs.Prelude.{ℕ}

-- The number of objects, which a Connect announces.
abbrev pub count : ℕ
count = 0xC0

-- The name of the object, often a file name.
abbrev pub name : ℕ
name = 0x01

-- The type of the object, as a MIME type.
abbrev pub type : ℕ
type = 0x42

-- The length of the object in bytes.
abbrev pub length : ℕ
length = 0xC3

-- A date and time stamp by ISO 8601, the preferred form.
abbrev pub time : ℕ
time = 0x44

-- A date and time stamp of four bytes, for compatibility only.
abbrev pub legacy_time : ℕ
legacy_time = 0xC4

-- A text that describes the object or the response.
abbrev pub description : ℕ
description = 0x05

-- The name of the service that the operation is directed to.
abbrev pub target : ℕ
target = 0x46

-- An HTTP 1.x header.
abbrev pub http : ℕ
http = 0x47

-- A chunk of the object.
abbrev pub body : ℕ
body = 0x48

-- The last chunk of the object.
abbrev pub end_of_body : ℕ
end_of_body = 0x49

-- The OBEX application that answers, which tells whether one talks to a peer.
abbrev pub who : ℕ
who = 0x4A

-- The connection, if several share one transport.
abbrev pub connection_id : ℕ
connection_id = 0xCB

-- Parameters of the application, a tag list.
abbrev pub application_parameters : ℕ
application_parameters = 0x4C

-- A digest-challenge, a tag list.
abbrev pub authenticate_challenge : ℕ
authenticate_challenge = 0x4D

-- A digest-response, a tag list.
abbrev pub authenticate_response : ℕ
authenticate_response = 0x4E

-- The creator of the object.
abbrev pub creator_id : ℕ
creator_id = 0xCF

-- The network client on stateless networks.
abbrev pub wan_uuid : ℕ
wan_uuid = 0x50

-- The OBEX object class of the object.
abbrev pub object_class : ℕ
object_class = 0x51

-- Parameters of session commands, a tag list.
abbrev pub session_parameters : ℕ
session_parameters = 0x52

-- The sequence number of a packet of a reliable session.
abbrev pub session_sequence_number : ℕ
session_sequence_number = 0x93

-- The action that an Action operation performs.
abbrev pub action_id : ℕ
action_id = 0x94

-- The name of the destination of an Action operation.
abbrev pub dest_name : ℕ
dest_name = 0x15

-- The bit masks of permissions.
abbrev pub permissions : ℕ
permissions = 0xD6

-- Single Response Mode (SRM) is asked for or confirmed.
abbrev pub single_response_mode : ℕ
single_response_mode = 0x97

-- The parameter of SRM.
abbrev pub single_response_mode_parameters : ℕ
single_response_mode_parameters = 0x98
