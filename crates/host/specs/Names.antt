-- The names of requests as the programs print them, in ASCII: those of the handler's methods in the source. A nonce and a body read are no methods,
-- and have no name.
use Rattle.std.specs.Prelude.{ℕ, List, [], ◌∷◌}
use Rattle.server.specs.declared.HostRequest.{HostRequest}
use Rattle.server.specs.declared.HostRequest.TheVariants as request

-- The name of a request.
abbrev pub request_name : HostRequest → List ℕ
request_name (request.Connect n) = 99 ∷ 111 ∷ 110 ∷ 110 ∷ 101 ∷ 99 ∷ 116 ∷ []
request_name (request.Disconnect n) = 100 ∷ 105 ∷ 115 ∷ 99 ∷ 111 ∷ 110 ∷ 110 ∷ 101 ∷ 99 ∷ 116 ∷ []
request_name (request.SetPath n backup no-create) = 115 ∷ 101 ∷ 116 ∷ 95 ∷ 112 ∷ 97 ∷ 116 ∷ 104 ∷ []
request_name (request.Abort n) = 97 ∷ 98 ∷ 111 ∷ 114 ∷ 116 ∷ []
request_name (request.Put kept b) = 112 ∷ 117 ∷ 116 ∷ []
request_name (request.Get kept) = 103 ∷ 101 ∷ 116 ∷ []
request_name (request.Action kept) = 97 ∷ 99 ∷ 116 ∷ 105 ∷ 111 ∷ 110 ∷ []
request_name (request.Session kept) = 115 ∷ 101 ∷ 115 ∷ 115 ∷ 105 ∷ 111 ∷ 110 ∷ []
request_name (request.UserDefined opcode kept) = 117 ∷ 115 ∷ 101 ∷ 114 ∷ 95 ∷ 100 ∷ 101 ∷ 102 ∷ 105 ∷ 110 ∷ 101 ∷ 100 ∷ []
request_name (request.Password user) = 112 ∷ 97 ∷ 115 ∷ 115 ∷ 119 ∷ 111 ∷ 114 ∷ 100 ∷ []
request_name (request.Credentials nonce required only realm) = 99 ∷ 114 ∷ 101 ∷ 100 ∷ 101 ∷ 110 ∷ 116 ∷ 105 ∷ 97 ∷ 108 ∷ 115 ∷ []
request_name request.Nonce = []
request_name (request.Read room) = []
