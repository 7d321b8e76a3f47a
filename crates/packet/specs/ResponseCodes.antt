-- Response codes (IrOBEX 1.5, section 3.2.1): the numbers of `packet::response`, under the same names, without the Final bit. Beside each
-- stands the HTTP status that the standard derives it from; the last two are of OBEX alone.
use Rattle.std.specs.Prelude.{ℕ}

-- Continue (HTTP 100).
abbrev pub continue : ℕ
continue = 0x10

-- Success (HTTP 200).
abbrev pub success : ℕ
success = 0x20

-- Created (HTTP 201).
abbrev pub created : ℕ
created = 0x21

-- Accepted (HTTP 202).
abbrev pub accepted : ℕ
accepted = 0x22

-- Non Authoritative Information (HTTP 203).
abbrev pub non_authoritative_information : ℕ
non_authoritative_information = 0x23

-- No Content (HTTP 204).
abbrev pub no_content : ℕ
no_content = 0x24

-- Reset Content (HTTP 205).
abbrev pub reset_content : ℕ
reset_content = 0x25

-- Partial Content (HTTP 206).
abbrev pub partial_content : ℕ
partial_content = 0x26

-- Multiple Choices (HTTP 300).
abbrev pub multiple_choices : ℕ
multiple_choices = 0x30

-- Moved Permanently (HTTP 301).
abbrev pub moved_permanently : ℕ
moved_permanently = 0x31

-- Moved Temporarily (HTTP 302).
abbrev pub moved_temporarily : ℕ
moved_temporarily = 0x32

-- See Other (HTTP 303).
abbrev pub see_other : ℕ
see_other = 0x33

-- Not Modified (HTTP 304).
abbrev pub not_modified : ℕ
not_modified = 0x34

-- Use Proxy (HTTP 305).
abbrev pub use_proxy : ℕ
use_proxy = 0x35

-- Bad Request (HTTP 400).
abbrev pub bad_request : ℕ
bad_request = 0x40

-- Unauthorized (HTTP 401).
abbrev pub unauthorized : ℕ
unauthorized = 0x41

-- Payment Required (HTTP 402).
abbrev pub payment_required : ℕ
payment_required = 0x42

-- Forbidden (HTTP 403).
abbrev pub forbidden : ℕ
forbidden = 0x43

-- Not Found (HTTP 404).
abbrev pub not_found : ℕ
not_found = 0x44

-- Method Not Allowed (HTTP 405).
abbrev pub method_not_allowed : ℕ
method_not_allowed = 0x45

-- Not Acceptable (HTTP 406).
abbrev pub not_acceptable : ℕ
not_acceptable = 0x46

-- Proxy Authentication Required (HTTP 407).
abbrev pub proxy_authentication_required : ℕ
proxy_authentication_required = 0x47

-- Request Time Out (HTTP 408).
abbrev pub request_time_out : ℕ
request_time_out = 0x48

-- Conflict (HTTP 409).
abbrev pub conflict : ℕ
conflict = 0x49

-- Gone (HTTP 410).
abbrev pub gone : ℕ
gone = 0x4A

-- Length Required (HTTP 411).
abbrev pub length_required : ℕ
length_required = 0x4B

-- Precondition Failed (HTTP 412).
abbrev pub precondition_failed : ℕ
precondition_failed = 0x4C

-- Requested Entity Too Large (HTTP 413).
abbrev pub requested_entity_too_large : ℕ
requested_entity_too_large = 0x4D

-- Request URL Too Large (HTTP 414).
abbrev pub request_url_too_large : ℕ
request_url_too_large = 0x4E

-- Unsupported Media Type (HTTP 415).
abbrev pub unsupported_media_type : ℕ
unsupported_media_type = 0x4F

-- Internal Server Error (HTTP 500).
abbrev pub internal_server_error : ℕ
internal_server_error = 0x50

-- Not Implemented (HTTP 501).
abbrev pub not_implemented : ℕ
not_implemented = 0x51

-- Bad Gateway (HTTP 502).
abbrev pub bad_gateway : ℕ
bad_gateway = 0x52

-- Service Unavailable (HTTP 503).
abbrev pub service_unavailable : ℕ
service_unavailable = 0x53

-- Gateway Timeout (HTTP 504).
abbrev pub gateway_timeout : ℕ
gateway_timeout = 0x54

-- HTTP Version Not Supported (HTTP 505).
abbrev pub http_version_not_supported : ℕ
http_version_not_supported = 0x55

-- The database is full.
abbrev pub database_full : ℕ
database_full = 0x60

-- The database is locked.
abbrev pub database_locked : ℕ
database_locked = 0x61
