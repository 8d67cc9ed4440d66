mod CountLaws
pub mod CallLaws
