use Rattle.std.proofs.Common.{rules, not, ◌==◌, ◌≡◌, List, ℕ, ap, ◌∙◌, filter}
use Rattle.std.proofs.lemmas.Fn.{filter_same}
use Rattle.role_sessions.specs.Sessions.{Session}
use Rattle.role_sessions.specs.inside.Changes.{without_role}
use Rattle.role_sessions.proofs.session.Session.drop_role.Goals as goal

pub returns : goal.returns
returns c =
    let kept : c.retain.new.self.items ≡ filter (λ active. not (active == c.args.role)) c.self.inside.active.items =
    filter_same _ _ _ (λ x b f' k. search rules) _ _ c.retain.ensures.filtered in
    let family : List ℕ → Session = λ active. record { user = c.self.inside.user; active = active } in
    ap family kept ∙ ap (without_role c.args.role) c.self.view_is
