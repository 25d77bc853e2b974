use Rattle.graph_firing.proofs.nodes.starting.own_parts.Goals as goal

pub returns-clause-parts : goal.returns-clause-parts
returns-clause-parts c = record {
  path_is = c.in_ok-own.ensures.path;
  keeps_are = c.in_ok-parts.ensures.keeps;
  names_are = c.in_ok-parts.ensures.names;
  rows_are = c.in_ok-own.ensures.rows;
  exports_are = c.in_ok-own.ensures.exports;
  empty = c.in_ok-parts.ensures.empty.0;
  none = c.in_ok-parts.ensures.empty.1;
  room = c.in_ok-parts.ensures.room;
}
