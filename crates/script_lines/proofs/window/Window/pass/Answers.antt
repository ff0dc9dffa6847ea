use Rattle.std.proofs.Common.{ap}
use Rattle.script_lines.proofs.Windows.{hand_passed}
use Rattle.script_lines.proofs.window.Window.pass.Goals as goal

pub returns-else-self-clause-held : goal.returns-else-self-clause-held
returns-else-self-clause-held c = hand_passed c.self.inside.bytes.items c.args.self.now.held c.self.inside.start c.self.inside.end c.args.count (ap (λ w. w.held) c.self.view_is) c.requires
