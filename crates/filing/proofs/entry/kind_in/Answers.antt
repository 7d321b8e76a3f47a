-- `filing::entry::kind_in` meets its contract. The arms of the code are those of the definition. Assumes nothing.
use borrow.Author.Tests.{ne_eqb}
use Rattle.filing.proofs.entry.kind_in.Goals as goal

pub returns-in-1869636974 : goal.returns-in-1869636974
returns-in-1869636974 c = simp c.in-1869636974.is

pub returns-in-1919247222 : goal.returns-in-1919247222
returns-in-1919247222 c = simp c.in-1919247222.is

pub returns-in-1885434484 : goal.returns-in-1885434484
returns-in-1885434484 c = simp c.in-1885434484.is

pub returns-in-1936027252 : goal.returns-in-1936027252
returns-in-1936027252 c = simp c.in-1936027252.is

pub returns-in-1634628471 : goal.returns-in-1634628471
returns-in-1634628471 c = simp c.in-1634628471.is

pub returns-in-1868720756 : goal.returns-in-1868720756
returns-in-1868720756 c = simp c.in-1868720756.is

pub returns-in-1885434739 : goal.returns-in-1885434739
returns-in-1885434739 c = simp c.in-1885434739.is

pub returns-in-1852796515 : goal.returns-in-1852796515
returns-in-1852796515 c = simp c.in-1852796515.is

pub returns-in-1668050803 : goal.returns-in-1668050803
returns-in-1668050803 c = simp c.in-1668050803.is

pub returns-in-1718185061 : goal.returns-in-1718185061
returns-in-1718185061 c = simp c.in-1718185061.is

pub returns-in-1717660012 : goal.returns-in-1717660012
returns-in-1717660012 c = simp c.in-1717660012.is

pub returns-in-1685024357 : goal.returns-in-1685024357
returns-in-1685024357 c = simp c.in-1685024357.is

pub returns-in_default : goal.returns-in_default
returns-in_default c =
    let n = c.args.letters in
    simp (
      ne_eqb n 0x6F70656E c.in_default.in_default-own.rest.0.0.0.0.0.0.0.0.0.0.0.1,
      ne_eqb n 0x72656376 c.in_default.in_default-own.rest.0.0.0.0.0.0.0.0.0.0.1,
      ne_eqb n 0x70617274 c.in_default.in_default-own.rest.0.0.0.0.0.0.0.0.0.1,
      ne_eqb n 0x73656E74 c.in_default.in_default-own.rest.0.0.0.0.0.0.0.0.1,
      ne_eqb n 0x616E7377 c.in_default.in_default-own.rest.0.0.0.0.0.0.0.1,
      ne_eqb n 0x6F626A74 c.in_default.in_default-own.rest.0.0.0.0.0.0.1,
      ne_eqb n 0x70617373 c.in_default.in_default-own.rest.0.0.0.0.0.1,
      ne_eqb n 0x6E6F6E63 c.in_default.in_default-own.rest.0.0.0.0.1,
      ne_eqb n 0x636C6F73 c.in_default.in_default-own.rest.0.0.0.1,
      ne_eqb n 0x66696C65 c.in_default.in_default-own.rest.0.0.1,
      ne_eqb n 0x6661696C c.in_default.in_default-own.rest.0.1,
      ne_eqb n 0x646F6E65 c.in_default.in_default-own.rest.1,
    )
