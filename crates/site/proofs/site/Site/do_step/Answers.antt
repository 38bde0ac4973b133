use Rattle.std.proofs.Common.{refl, arith}
use Rattle.site.proofs.Stepping.{open_stepped, read_stepped, write_stepped, begin_stepped, close_stepped, invalidate_stepped, restart_client_stepped, restart_server_stepped, none_stepped}
use Rattle.site.proofs.site.Site.do_step.Goals as goal

pub returns-in-1 : goal.returns-in-1
returns-in-1 g c = record { does = open_stepped _ _ _ c.args.step c.args.given _ _ c.in-1.is c.do_open.ensures.does c.open_reply.ensures; kept = c.do_open.ensures.kept }

pub returns-in-2 : goal.returns-in-2
returns-in-2 g c = record { does = read_stepped _ _ _ c.args.step c.args.given _ _ c.in-2.is c.do_read.ensures.does c.read_reply.ensures; kept = c.do_read.ensures.kept }

pub returns-in-3 : goal.returns-in-3
returns-in-3 g c = record { does = write_stepped _ _ _ c.args.step c.args.given _ _ c.in-3.is c.do_write.ensures.does c.plain_reply.ensures; kept = c.do_write.ensures.kept }

pub returns-in-4 : goal.returns-in-4
returns-in-4 g c = record { does = begin_stepped _ _ _ c.args.step c.args.given _ _ c.in-4.is c.begin_step.ensures.does c.noted_reply.ensures; kept = c.begin_step.ensures.kept }

pub returns-in-7 : goal.returns-in-7
returns-in-7 g c = record { does = close_stepped _ _ _ c.args.step c.args.given _ _ c.in-7.is c.do_close.ensures.does c.plain_reply-in-7.ensures; kept = c.do_close.ensures.kept }

pub returns-in-8 : goal.returns-in-8
returns-in-8 g c = record { does = invalidate_stepped _ _ _ c.args.step c.args.given _ _ c.in-8.is c.do_invalidate.ensures.does c.swept_reply.ensures; kept = c.do_invalidate.ensures.kept }

pub returns-in-9 : goal.returns-in-9
returns-in-9 g c = record { does = restart_client_stepped _ _ _ c.args.step c.args.given _ _ c.in-9.is c.do_restart_client.ensures.does c.plain_reply-in-9.ensures; kept = c.do_restart_client.ensures.kept }

pub returns-in-10 : goal.returns-in-10
returns-in-10 g c = record { does = restart_server_stepped _ _ _ c.args.step c.args.given _ _ c.in-10.is c.do_restart_server.ensures.does c.plain_reply-in-10.ensures; kept = c.do_restart_server.ensures.kept }

pub returns-in_default : goal.returns-in_default
returns-in_default g c = record { does = none_stepped c.args.step c.args.given (λ n l h e. omega arith) _ _ _ c.no_reply.ensures; kept = refl }
